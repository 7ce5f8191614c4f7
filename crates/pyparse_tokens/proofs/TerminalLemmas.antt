-- Carries: push_token, push_string, push, take_token, take_operator, read_line. On: which terminals a token is, and that one without a
-- fault is some.
use Rattle.std.proofs.Common.{◌≡◌, ℕ, ◌<◌, Bool, true, false, List, [], ◌∷◌, ◌++◌, length, map, refl, sym, ap, ◌∙◌, arith, Option, Some}
use Rattle.std.proofs.Common.{None}
use Rattle.std.specs.Prelude.{if◌then◌else◌}
use Rattle.std.specs.Str.{chars}
use Rattle.pysource.specs.declared.places.Place.{Place}
use Rattle.pylex_listing.specs.declared.kind.Kind.{Kind}
use Rattle.pylex_listing.specs.declared.kind.Kind.TheVariants as kinds
use Rattle.pylex_listing.specs.declared.entries.Entry.{Entry}
use Rattle.pytree_node.specs.declared.profiles.Extent.{Extent}
use Rattle.pytree_node.specs.declared.profiles.Extent.TheVariants.{Plain, Whole}
use Rattle.pytoken.specs.declared.faults.TokenError.{TokenError}
use Rattle.pytoken.specs.declared.faults.TokenError.TheVariants as errors
use Rattle.pytoken.specs.declared.refusals.Refusal.{Refusal}
use Rattle.pytoken.specs.declared.refusals.Refusal.TheVariants as refusals
use Rattle.pytoken.specs.StringValues.{string_fault, literal_fault}
use Rattle.pytoken.specs.FormattedStrings.{Element, is_fstring, elements_of, elements_fault}
use Rattle.pytoken.specs.Terminals
use Rattle.pytoken.specs.Terminals.{terminal_of, single_fault, terminals_by, fault_by, terminals_of, fault_of, expression}
use Rattle.pytoken.specs.Terminals.{elements_terminals, is_faulty}
use Rattle.pytoken.specs.TerminalOf.{terminal}
use Rattle.pytoken.specs.Tokens.{text_of}
use Rattle.pytoken.specs.Refusals.{entry_refusal}
use Rattle.pytoken.proofs.Callers.Singles.{of_single, one_terminal}
use Rattle.pyparse_tokens.specs.declared.open_line.OpenLine.{OpenLine}
use Rattle.pyparse_tokens.specs.Inner.OpenLines.{of_first, Pushes}
use Rattle.pyparse_tokens.specs.Inner.LineGathering.{stands_in_line, Adds}

-- ---- Tokens that are single terminals.

-- an f-string is none
formatted_fault : (extent : Extent) (k : Kind) (t : List ℕ) → is_fstring k t ≡ true → single_fault extent k t ≡ Some errors.FString
unfolding single_fault string_fault literal_fault
formatted_fault extent kinds.String t is = rw is refl
formatted_fault extent kinds.Name t is = absurd cc
formatted_fault extent kinds.Number t is = absurd cc
formatted_fault extent kinds.Comment t is = absurd cc
formatted_fault extent kinds.Encoding t is = absurd cc
formatted_fault extent kinds.Op t is = absurd cc
formatted_fault extent kinds.Nl t is = absurd cc
formatted_fault extent kinds.Newline t is = absurd cc
formatted_fault extent kinds.Indent t is = absurd cc
formatted_fault extent kinds.Dedent t is = absurd cc
formatted_fault extent kinds.EndMarker t is = absurd cc

-- what is no STRING is one
unquoted : (k : Kind) (t : List ℕ) → (k ≡ kinds.String → ⊥) → is_fstring k t ≡ false
unquoted kinds.String t other = absurd (other refl)
unquoted kinds.Name t other = refl
unquoted kinds.Number t other = refl
unquoted kinds.Comment t other = refl
unquoted kinds.Encoding t other = refl
unquoted kinds.Op t other = refl
unquoted kinds.Nl t other = refl
unquoted kinds.Newline t other = refl
unquoted kinds.Indent t other = refl
unquoted kinds.Dedent t other = refl
unquoted kinds.EndMarker t other = refl

pub unquoted_fault : (extent : Extent) (k : Kind) (t : List ℕ) → (k ≡ kinds.String → ⊥) → fault_of extent k t ≡ single_fault extent k t
unquoted_fault extent k t other = of_single extent k t (unquoted k t other)

-- and so is one that has no fault as such
pub record IsSingle (extent : Extent) (k : Kind) (t : List ℕ) : Type 0 where
  pub sound : fault_of extent k t ≡ None
  pub one : terminals_of k t ≡ terminal_of k t ∷ []

pub is_single : (extent : Extent) (k : Kind) (t : List ℕ) → single_fault extent k t ≡ None → IsSingle extent k t
is_single extent k t none = by (is_fstring k t) refl
  where
    by : (b : Bool) → is_fstring k t ≡ b → IsSingle extent k t
    by true is = let some : single_fault extent k t ≡ Some errors.FString = formatted_fault extent k t is in absurd cc
    by false is = record { sound = of_single extent k t is ∙ none; one = one_terminal false expression k t is }

-- ---- Tokens without a fault.

-- the refusal of an entry is by the fault of its token
abbrev refusal_by : Place → Option TokenError → Option Refusal
refusal_by p o = elim o [ Some x ↦ Some (refusals.Token x p) | None ↦ None ]

pub no_refusal : (extent : Extent) (text : List ℕ) (e : Entry) → fault_of extent e.kind (text_of text e) ≡ None
    → entry_refusal extent text e ≡ None
no_refusal extent text e none = ap (refusal_by e.start) none

pub no_fault : (extent : Extent) (text : List ℕ) (e : Entry) → entry_refusal extent text e ≡ None
    → fault_of extent e.kind (text_of text e) ≡ None
no_fault extent text e none = by (fault_of extent e.kind (text_of text e)) none
  where
    by : (o : Option TokenError) → refusal_by e.start o ≡ None → o ≡ None
    by None is = refl
    by (Some x) is = absurd cc

cut_terminals : (t : List ℕ) (es : Option (List Element)) → elements_fault is_faulty t es ≡ None
    → 0 < length (elements_terminals expression es)
unfolding elements_fault
cut_terminals t None none = absurd cc
cut_terminals t (Some es) none = omega arith

formatted_terminals : (extent : Extent) (k : Kind) (t : List ℕ) → is_fstring k t ≡ true → fault_of extent k t ≡ None
    → 0 < length (terminals_of k t)
unfolding fault_of fault_by terminals_by
formatted_terminals Plain k t is none = let some : single_fault Plain k t ≡ Some errors.FString = formatted_fault Plain k t is in absurd cc
formatted_terminals Whole k t is none =
    let cut : elements_fault is_faulty t (elements_of false t) ≡ None = rw is at none in
    rw is (cut_terminals t (elements_of false t) cut)

-- one is at least one terminal
pub some_terminals : (extent : Extent) (k : Kind) (t : List ℕ) → fault_of extent k t ≡ None → 0 < length (terminals_of k t)
some_terminals extent k t none = by (is_fstring k t) refl
  where
    by : (b : Bool) → is_fstring k t ≡ b → 0 < length (terminals_of k t)
    by true is = formatted_terminals extent k t is none
    by false is = let size : length (terminals_of k t) ≡ 1 = ap length (one_terminal false expression k t is) in omega (arith, size)

-- ---- One token more in the line that is open.

-- what an entry adds is what its token is
pub pushed_adds : (text : List ℕ) (e : Entry) (ts : List Terminals.Terminal) (old new : OpenLine) → stands_in_line e.kind ≡ true →
    ts ≡ terminals_of e.kind (text_of text e) → Pushes e.start (text_of text e) ts old new → Adds text e old new
pushed_adds text e ts old new stands own pushes = record {
  terminals =
      pushes.terminals
      ∙ ap (λ (us : List Terminals.Terminal). map terminal old.terminals.items ++ us)
      (own ∙ ap (λ (b : Bool). if b then terminals_of e.kind (text_of text e) else []) (sym stands));
  start = pushes.start ∙ ap (λ (b : Bool). if b then of_first old.terminals.items old.start e.start else old.start) (sym stands);
  first =
      pushes.first
      ∙ ap (λ (b : Bool). if b then of_first old.terminals.items (chars old.first.now) (text_of text e) else chars
      old.first.now) (sym stands);
  last = pushes.last ∙ ap (λ (b : Bool). if b then text_of text e else chars old.last.now) (sym stands);
}
