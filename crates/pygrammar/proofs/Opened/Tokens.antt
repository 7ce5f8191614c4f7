-- The terminals of a token close the f-strings that they open, and are one token where it has no fault.
--
-- Carries: tokens_close, tokens_counted and their like, for callers. On: Counts, Closing.
use Rattle.std.proofs.Common.{◌≡◌, inl, inr, refl, ap, ℕ, arith, Bool, true, false, List, [], ◌∷◌, ◌++◌, length, Option, Some, None}
use Rattle.std.specs.Prelude.{All, option_map}
use Rattle.std.specs.List.{flat_map}
use Rattle.std.proofs.lemmas.Bool.{cases_Bool}
use Rattle.std.proofs.lemmas.Grind.{flat_map-append}
use Rattle.std.proofs.lemmas.List.Elements.{All-head, All-tail}
use Rattle.pylex_lexeme.specs.declared.kinds.Exact.{Exact}
use Rattle.pylex_lexeme.specs.Operators.{exact_of}
use Rattle.pylex_listing.specs.declared.kind.Kind.{Kind}
use Rattle.pylex_listing.specs.declared.kind.Kind.TheVariants as kinds
use Rattle.pyfstring.specs.Parts.{FieldParts, Part, text as text_part, field as field_part, BodyPart}
use Rattle.pytree_node.specs.declared.profiles.Extent.TheVariants.{Whole}
use Rattle.pytoken.specs.declared.keywords.Keyword.{Keyword}
use Rattle.pytoken.specs.Keywords.{keyword_of}
use Rattle.pytoken.specs.FormattedStrings.{Element, Field, End, text_element, kept_elements, spec_elements, field_elements, part_elements}
use Rattle.pytoken.specs.FormattedStrings.{inner_elements, spec_part_elements, body_part_elements, is_fstring, elements_of, elements_fault}
use Rattle.pytoken.specs.Terminals.{Terminal, Op, Word, Ident, Layout, FieldBegin, terminal_of, element_terminals, elements_terminals}
use Rattle.pytoken.specs.Terminals.{terminals_by, nested_expression, expression, terminals_of, fault_by, fault_of, is_faulty}
use Rattle.pytoken.specs.Tokens.{Token}
use Rattle.pygrammar.specs.OpenStrings.{token_count}
use Rattle.pygrammar.proofs.Opened.Counts.{count_append, count_formatted}
use Rattle.pygrammar.proofs.Opened.Closing.{Closes, none, same, both, word, ident, number, literal, text, spec, formatted, field}

-- ---- One terminal, and those of some things in turn.

single_closes : (k : Kind) (t : List ℕ) → Closes (terminal_of k t ∷ [])
unfolding terminal_of
single_closes kinds.Name t = by (keyword_of t) _
  where
    by : (o : Option Keyword) (form : List ℕ)
        → Closes (elim o [ Some w ↦ Word w | None ↦ Ident (record { spelling = t; form = form }) ] ∷ [])
    by (Some w) form = word none
    by None form = ident none
single_closes kinds.Number t = number none
single_closes kinds.String t = literal none
single_closes kinds.Op t = by (exact_of t)
  where
    by : (o : Option Exact) → Closes (elim o [ Some e ↦ Op e | None ↦ Layout ] ∷ [])
    by (Some e) = record { is = λ o. refl }
    by None = record { is = λ o. refl }
single_closes _ t = record { is = λ o. refl }

all_close : {X : Type 0} (f : X → List Terminal) → ((x : X) → Closes (f x)) → (xs : List X) → Closes (flat_map f xs)
all_close f each [] = none
all_close f each (x ∷ xs) = both (each x) (all_close f each xs)

-- ---- F-strings whose expressions are lists that close what they open.

abbrev IsClosing : (List ℕ → List Terminal) → Type 0
IsClosing expression = (t : List ℕ) → Closes (expression t)

abbrev AreClosing : (List ℕ → List Terminal) → List Element → Type 0
AreClosing expression es = Closes (flat_map (element_terminals expression) es)

-- what stands between the ends of an f-string, if it has elements
abbrev Inside : (List ℕ → List Terminal) → Option (List Element) → Type 0
Inside expression None = Unit {0}
Inside expression (Some es) = AreClosing expression es

module _ (x : List ℕ → List Terminal) (inner : IsClosing x) where
  joined : (es fs : List Element) → AreClosing x es → AreClosing x fs → AreClosing x (es ++ fs)
  joined es fs p q = same (both p q) (flat_map-append (element_terminals x) es fs)

  kept_closes : (o : Option (List ℕ)) → AreClosing x (kept_elements o)
  kept_closes None = none
  kept_closes (Some t) = text none

  inner_closes : (raw : Bool) (t : List ℕ) → AreClosing x (inner_elements raw t)
  inner_closes raw t = text none

  -- fields whose specs are lists that close what they open
  module _ (S : Type 0) (elements : S → List Element) (each : (s : S) → AreClosing x (elements s)) where
    spec_closes : (o : Option S) → AreClosing x (spec_elements elements o)
    spec_closes None = none
    spec_closes (Some s) = spec (each s)

    field_closes : (f : FieldParts S) → AreClosing x (field_elements elements f)
    field_closes f =
        let following = spec_elements elements f.spec in
        joined (kept_elements f.kept) (Field f.conversion f.text ∷ (following ++ End ∷ [])) (kept_closes f.kept)
        (same (field (inner f.text) (spec_closes f.spec) none)
        (ap (λ ts. FieldBegin f.conversion ∷ (x f.text ++ ts)) (flat_map-append (element_terminals x) following (End ∷ []))))

    parts_close : (raw pairs : Bool) (ps : List (Part S)) → AreClosing x (flat_map (part_elements raw pairs elements) ps)
    parts_close raw pairs [] = none
    parts_close raw pairs (text_part t ∷ ps) =
        joined (text_element raw pairs t ∷ []) (flat_map (part_elements raw pairs elements) ps) (text none) (parts_close raw pairs ps)
    parts_close raw pairs (field_part f ∷ ps) =
        joined (field_elements elements f) (flat_map (part_elements raw pairs elements) ps) (field_closes f) (parts_close raw pairs ps)

  body_closes : (raw : Bool) (ps : List BodyPart) → AreClosing x (body_part_elements raw ps)
  body_closes raw ps = parts_close _ (spec_part_elements raw) (parts_close _ (inner_elements raw) (inner_closes raw) raw false) raw true ps

  elements_inside : (nested : Bool) (t : List ℕ) → Inside x (elements_of nested t)
  unfolding elements_of
  elements_inside nested t = by _ _
    where
      by : (raw : Bool) (o : Option (List BodyPart)) → Inside x (option_map (body_part_elements raw) o)
      by raw None = tt
      by raw (Some ps) = body_closes raw ps

  elements_close : (o : Option (List Element)) → Inside x o → Closes (elements_terminals x o)
  elements_close None p = none
  elements_close (Some es) p = formatted p none

  token_closes : (nested : Bool) (k : Kind) (t : List ℕ) → Closes (terminals_by nested x k t)
  unfolding terminals_by
  token_closes nested k t = elim (cases_Bool (is_fstring k t)) [
    | inl is ↦ rw is (elements_close (elements_of nested t) (elements_inside nested t))
    | inr other ↦ rw other (single_closes k t)
  ]

-- ---- Tokens.

nested_closes : IsClosing nested_expression
unfolding nested_expression
nested_closes t = all_close _ (λ y. single_closes y.kind y.text) _

expression_closes : IsClosing expression
unfolding expression
expression_closes t = all_close _ (λ y. token_closes nested_expression nested_closes true y.kind y.text) _

pub terminals_close : (k : Kind) (t : List ℕ) → Closes (terminals_of k t)
terminals_close = token_closes expression expression_closes false

-- an f-string that has elements
elements_counted : (t : List ℕ) (o : Option (List Element)) → elements_fault is_faulty t o ≡ None → Inside expression o
    → token_count (elements_terminals expression o) ≡ 1
unfolding elements_fault
elements_counted t None none p = absurd cc
elements_counted t (Some es) none p = count_formatted (flat_map (element_terminals expression) es) [] p.is

pub terminals_counted : (k : Kind) (t : List ℕ) → fault_of Whole k t ≡ None → token_count (terminals_of k t) ≡ 1
unfolding terminals_by fault_by fault_of
terminals_counted k t none = elim (cases_Bool (is_fstring k t)) [
  | inl is ↦ rw is (elements_counted t (elements_of false t) (rw is at none) (elements_inside expression expression_closes false t))
  | inr other ↦ rw other refl
]

pub tokens_close : (ts : List Token) → Closes (flat_map (λ (t : Token). terminals_of t.kind t.text) ts)
tokens_close ts = all_close (λ (t : Token). terminals_of t.kind t.text) (λ (t : Token). terminals_close t.kind t.text) ts

abbrev IsFaultless : Token → Type 0
IsFaultless t = fault_of Whole t.kind t.text ≡ None

pub tokens_counted : (ts : List Token) → All (λ (t : Token). fault_of Whole t.kind t.text ≡ None) ts
    → token_count (flat_map (λ t. terminals_of t.kind t.text) ts) ≡ length ts
tokens_counted [] h = refl
tokens_counted (t ∷ ts) h =
    let one = terminals_of t.kind t.text in
    let joined = count_append one (flat_map (λ (u : Token). terminals_of u.kind u.text) ts) ((terminals_close t.kind t.text).is []) in
    omega (arith, joined, terminals_counted t.kind t.text (All-head IsFaultless t ts h), tokens_counted ts (All-tail IsFaultless t ts h))
