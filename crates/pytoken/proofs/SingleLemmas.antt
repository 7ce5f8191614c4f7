-- Carries: push_terminals, token_fault, come_back. On: tokens that are no f-strings, and f-strings in the plain language.
use Rattle.std.proofs.Common.{◌≡◌, ℕ, Bool, true, false, List, [], ◌∷◌, refl, Some}
use Rattle.pylex_listing.specs.declared.kind.Kind.{Kind}
use Rattle.pylex_listing.specs.declared.kind.Kind.TheVariants as kinds
use Rattle.pytree_node.specs.declared.profiles.Extent.{Extent}
use Rattle.pytree_node.specs.declared.profiles.Extent.TheVariants.{Plain, Whole}
use Rattle.pytoken.specs.declared.faults.TokenError.TheVariants as errors
use Rattle.pytoken.specs.StringValues.{literal_fault, string_fault}
use Rattle.pytoken.specs.FormattedStrings.{is_fstring, elements_of, elements_fault}
use Rattle.pytoken.specs.Terminals.{Terminal, terminal_of, single_fault, terminals_by, fault_by, fault_of, elements_terminals, is_faulty}

pub of_single : (extent : Extent) (k : Kind) (t : List ℕ) → is_fstring k t ≡ false → fault_of extent k t ≡ single_fault extent k t
unfolding fault_of fault_by
of_single Plain k t other = refl
of_single Whole k t other = rw other refl

pub one_terminal : (is_nested : Bool) (expression : List ℕ → List Terminal) (k : Kind) (t : List ℕ) → is_fstring k t ≡ false →
    terminals_by is_nested expression k t ≡ terminal_of k t ∷ []
unfolding terminals_by
one_terminal is_nested expression k t other = rw other refl

-- an f-string

pub of_formatted : (k : Kind) (t : List ℕ) → is_fstring k t ≡ true → fault_of Whole k t ≡ elements_fault is_faulty t (elements_of false t)
unfolding fault_of fault_by
of_formatted k t is = rw is refl

pub formatted_terminals : (is_nested : Bool) (expression : List ℕ → List Terminal) (k : Kind) (t : List ℕ) → is_fstring k t ≡ true →
    terminals_by is_nested expression k t ≡ elements_terminals expression (elements_of is_nested t)
unfolding terminals_by
formatted_terminals is_nested expression k t is = rw is refl

pub plain_formatted : (k : Kind) (t : List ℕ) → is_fstring k t ≡ true → fault_of Plain k t ≡ Some errors.FString
unfolding fault_of single_fault string_fault literal_fault
plain_formatted kinds.String t is = rw is refl
plain_formatted kinds.Name t is = absurd cc
plain_formatted kinds.Number t is = absurd cc
plain_formatted kinds.Comment t is = absurd cc
plain_formatted kinds.Encoding t is = absurd cc
plain_formatted kinds.Op t is = absurd cc
plain_formatted kinds.Nl t is = absurd cc
plain_formatted kinds.Newline t is = absurd cc
plain_formatted kinds.Indent t is = absurd cc
plain_formatted kinds.Dedent t is = absurd cc
plain_formatted kinds.EndMarker t is = absurd cc
