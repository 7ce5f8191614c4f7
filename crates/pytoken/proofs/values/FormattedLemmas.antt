-- Carries: push_nested_expression, push_expression, push_token, push_nested, push_formatted.
-- On: an f-string's fault by its elements, and a field's tokens.
use Rattle.std.proofs.Common.{◌≡◌, ℕ, Bool, true, false, List, [], ◌∷◌, map, Result, Ok, Err, refl, sym, ap, subst, ◌∙◌, Option, Some, None}
use Rattle.std.proofs.Common.{is_some}
use Rattle.std.specs.Prelude.{IfErr, IsErrAnd}
use Rattle.std.specs.Option.{option_or}
use Rattle.std.specs.List.{flat_map, list_any}
use Rattle.pylex_lexeme.specs.Characters.{left_parenthesis, right_parenthesis}
use Rattle.pylex_lexeme.specs.declared.kinds.Exact.TheVariants.{LPar, RPar}
use Rattle.pylex_listing.specs.declared.kind.Kind.{Kind}
use Rattle.pylex_listing.specs.declared.kind.Kind.TheVariants as kinds
use Rattle.pyfstring.specs.declared.parts.CutError.{CutError}
use Rattle.pyfstring.specs.declared.parts.CutError.TheVariants as cut
use Rattle.pytree_node.specs.declared.profiles.Extent.TheVariants.{Whole}
use Rattle.pytoken.specs.declared.faults.TokenError.{TokenError}
use Rattle.pytoken.specs.declared.faults.TokenError.TheVariants as errors
use Rattle.pytoken.specs.declared.values.terminals.TerminalFault.{TerminalFault}
use Rattle.pytoken.specs.Escapes.{escape_fault}
use Rattle.pytoken.specs.StringValues.{nul_fault}
use Rattle.pytoken.specs.FormattedStrings.{Element, element_meanings, is_fstring, is_bulky, is_field_of, elements_of, elements_fault}
use Rattle.pytoken.specs.Terminals.{Op, terminal_of, single_fault, terminals_by, fault_by, nested_expression, is_nested_faulty, field_fault}
use Rattle.pytoken.specs.TerminalOf.{Tells}
use Rattle.pytoken.specs.Inner.Cuts.{fault_by_cut}
use Rattle.pytoken.specs.Inner.Pushing.{IfMalformed}
use Rattle.pytoken.proofs.Computing.{values}

-- its fault

by_texts : (test : List ℕ → Bool) (t : List ℕ) (o : Option (List Element)) (es : List Element) → o ≡ Some es →
    list_any (is_field_of test) es ≡ false → elements_fault test t o ≡ option_or (escape_fault (flat_map element_meanings es)) (nul_fault t)
unfolding elements_fault
by_texts test t o es is none = rw (is, none) refl

by_field : (test : List ℕ → Bool) (t : List ℕ) (o : Option (List Element)) (es : List Element) → o ≡ Some es →
    list_any (is_field_of test) es ≡ true → elements_fault test t o ≡ Some errors.FString
unfolding elements_fault
by_field test t o es is some = rw (is, some) refl

-- by its fields, where the elements are read from a list of what stands for them
pub fault_in_field : {A : Type 0} (test : List ℕ → Bool) (f : A → Element) (t : List ℕ) (o : Option (List Element)) (xs read : List A) →
    o ≡ Some (map f xs) → read ≡ xs → list_any (is_field_of test) (map f read) ≡ true → elements_fault test t o ≡ Some errors.FString
fault_in_field test f t o xs read is same some =
    by_field test t o (map f xs) is (ap (λ ys. list_any (is_field_of test) (map f ys)) (sym same) ∙ some)

-- where its fields have none, by what is found of its texts
pub fault_found : {A : Type 0} (test : List ℕ → Bool) (f : A → Element) (t : List ℕ) (o : Option (List Element)) (xs read again : List A)
    (found : Option TokenError) → o ≡ Some (map f xs) → read ≡ xs → again ≡ xs → list_any (is_field_of test) (map f read) ≡ false →
    found ≡ option_or (escape_fault (flat_map element_meanings (map f again))) (nul_fault t) → elements_fault test t o ≡ found
fault_found test f t o xs read again found is same too none own =
    by_texts test t o (map f xs) is (ap (λ ys. list_any (is_field_of test) (map f ys)) (sym same) ∙ none)
    ∙ ap (λ ys. option_or (escape_fault (flat_map element_meanings (map f ys))) (nul_fault t)) (sym too) ∙ sym own

pub by_cut : (test : List ℕ → Bool) (t : List ℕ) (o : Option (List Element)) → o ≡ None → elements_fault test t o ≡ Some errors.FString
unfolding elements_fault
by_cut test t o is = rw is refl

-- a cut that failed

cut_told : {P : Type 0} (e : CutError) (d : TerminalFault) (fault : Option TokenError) → d ≡ fault_by_cut e →
    (P → fault ≡ Some errors.FString) → IfMalformed e P → Tells fault d
cut_told cut.Malformed d fault is f p = subst (λ (x : TerminalFault). Tells fault x) (sym is) (f p)
cut_told cut.Memory d fault is f p = subst (λ (x : TerminalFault). Tells fault x) (sym is) tt

pub cut_passed_on : {X P : Type 0} (r : Result X TerminalFault) (e : CutError) (fault : Option TokenError)
    → IsErrAnd r (λ d. d ≡ fault_by_cut e) →
    (P → fault ≡ Some errors.FString) → IfMalformed e P → IfErr r (λ d. Tells fault d)
cut_passed_on (Ok x) e fault h f p = absurd h
cut_passed_on (Err d) e fault h f p = cut_told e d fault h f p

-- the parentheses around an expression

pub opening_terminal : terminal_of kinds.Op (left_parenthesis ∷ []) ≡ Op LPar
unfolding values
opening_terminal = refl

pub closing_terminal : terminal_of kinds.Op (right_parenthesis ∷ []) ≡ Op RPar
unfolding values
closing_terminal = refl

pub single_operator : (t : List ℕ) → is_some (single_fault Whole kinds.Op t) ≡ false
unfolding single_fault
single_operator t = refl

pub one_operator : (t : List ℕ) → terminals_by true nested_expression kinds.Op t ≡ terminal_of kinds.Op t ∷ []
unfolding terminals_by
one_operator t = refl

pub field_operator : (t : List ℕ) → is_some (field_fault kinds.Op t) ≡ false
unfolding fault_by single_fault
field_operator t = refl

-- the fault of a token in a field

pub field_single : (k : Kind) (t : List ℕ) → is_bulky k t ≡ false → is_fstring k t ≡ false → field_fault k t ≡ single_fault Whole k t
unfolding fault_by
field_single k t plain other = rw (plain, other) refl

pub field_formatted : (k : Kind) (t : List ℕ) → is_bulky k t ≡ false → is_fstring k t ≡ true →
    field_fault k t ≡ elements_fault is_nested_faulty t (elements_of true t)
unfolding fault_by
field_formatted k t plain is = rw (plain, is) refl
