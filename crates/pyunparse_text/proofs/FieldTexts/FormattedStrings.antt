-- A written f-string is read as what it is written of: its terminals, and that it has no fault (reference 2.4.3).
--
-- Carries: string_terminals, nested_string_terminals, string_faultless, nested_string_faultless, for what reads f-strings back.
-- On: FormattedTerminals, FormattedFaults, FieldReadings.
use Rattle.std.proofs.Common.{◌≡◌, ℕ, Bool, true, false, List, [], ◌∷◌, ◌++◌, Option, None, refl, sym, subst}
use Rattle.std.specs.List.{list_any}
use Rattle.std.specs.Str.{all_scalars}
use Rattle.std.proofs.lemmas.Grind.{flat_map-append}
use Rattle.std.proofs.lemmas.Bool.{or_parts}
use Rattle.pyfstring.specs.Parts.{FieldParts, BodyPart}
use Rattle.pyfstring_tokens.specs.Laws.{HasOwnTokens}
use Rattle.pylex_listing.specs.declared.kind.Kind.{Kind}
use Rattle.pylex_listing.specs.declared.kind.Kind.TheVariants as kinds
use Rattle.pytree_node.specs.declared.profiles.Extent.TheVariants.{Whole}
use Rattle.pytoken.specs.declared.faults.TokenError.{TokenError}
use Rattle.pytoken.specs.Terminals.{FormattedBegin, FormattedEnd, terminals_by, terminals_of, nested_expression, expression, single_fault}
use Rattle.pytoken.specs.Terminals.{fault_by}
use Rattle.pytoken.specs.Terminals.{field_fault, fault_of, is_nested_faulty, is_faulty}
use Rattle.pyunparse_text.specs.Spacing.{Piece}
use Rattle.pyunparse_text.specs.Written.{Element, End}
use Rattle.pyunparse_text.specs.Pieces.{Sited, formatted_text}
use Rattle.pyunparse_text.proofs.FieldTexts.Conditions.{IsFieldExpression, expression_text}
use Rattle.pyunparse_text.proofs.FieldTexts.FieldTokens.{field_scalars}
use Rattle.pyunparse_text.proofs.FieldTexts.FieldReadings.{given_by, single_terminal, expression_is, nested_expression_is, has_fault_by}
use Rattle.pyunparse_text.proofs.FieldTexts.FieldReadings.{field_faultless, nested_field_faultless}
use Rattle.pyunparse_text.proofs.FieldTexts.FormattedCuts as cut
use Rattle.pyunparse_text.proofs.FieldTexts.FormattedCuts.{IsWrittenField, a_written_field, AreParts, no_parts, a_text, a_field}
use Rattle.pyunparse_text.proofs.FieldTexts.FormattedCuts.{text_and_field}
use Rattle.pyunparse_text.proofs.FieldTexts.FormattedCuts.{IsInner, IsInnerField, IsOuter, IsOuterField, IsBody}
use Rattle.pyunparse_text.proofs.FieldTexts.FormattedTokens.{formatted_not_bulky}
use Rattle.pyunparse_text.proofs.FieldTexts.FormattedTerminals.{padded, all_terminals, formatted_terminals_are}
use Rattle.pyunparse_text.proofs.FieldTexts.FormattedFaults.{field_of, fields_of, formatted_faultless}

-- ---- Each field of a body has an expression that may stand there.

abbrev pub AreExpressions : List (List Piece) → Type 0
AreExpressions [] = Unit {0}
AreExpressions (ps ∷ pss) = IsFieldExpression ps × AreExpressions pss

both_are : (xs ys : List (List Piece)) → AreExpressions xs → AreExpressions ys → AreExpressions (xs ++ ys)
both_are [] ys a b = b
both_are (p ∷ xs) ys a b = (a.0, both_are xs ys a.1 b)

fields_both : (es fs : List (Element Sited)) → AreExpressions (fields_of es) → AreExpressions (fields_of fs)
    → AreExpressions (fields_of (es ++ fs))
fields_both es fs x y = subst AreExpressions (sym (flat_map-append field_of es fs)) (both_are (fields_of es) (fields_of fs) x y)

-- what a relation says of elements, their fields have such expressions
abbrev HaveExpressions : {S : Type 0} → (List (Element Sited) → S → Type 0) → Type 0
HaveExpressions {S} Relation = (es : List (Element Sited)) (s : S) → Relation es s → AreExpressions (fields_of es)

module _ (is_in_field : Bool) where
  of_field : {S : Type 0} (IsSpecOf : List (Element Sited) → Option S → Type 0) → HaveExpressions IsSpecOf
      → HaveExpressions (IsWrittenField is_in_field IsSpecOf)
  of_field IsSpecOf h es f (a_written_field {es = ss} {s = s} e n i) = (e, fields_both ss (End ∷ []) (h ss s i) tt)

  of_parts : {S : Type 0} (in_spec : Bool) (IsFieldOf : List (Element Sited) → FieldParts S → Type 0) → HaveExpressions IsFieldOf
      → HaveExpressions (AreParts is_in_field in_spec IsFieldOf)
  of_parts in_spec IsFieldOf h es ps no_parts = tt
  of_parts in_spec IsFieldOf h es ps (a_text a) = tt
  of_parts in_spec IsFieldOf h es ps (a_field {es = gs} {fs = fs} {f = f} {ps = qs} g r) =
      fields_both gs fs (h gs f g) (of_parts in_spec IsFieldOf h fs qs r)
  of_parts in_spec IsFieldOf h es ps (text_and_field {es = gs} {fs = fs} {f = f} {ps = qs} a g r) =
      fields_both gs fs (h gs f g) (of_parts in_spec IsFieldOf h fs qs r)

  of_inner : HaveExpressions (IsInner is_in_field)
  of_inner es s cut.none = tt
  of_inner es s cut.empty = tt
  of_inner es s (cut.one a) = tt

  of_outer : HaveExpressions (IsOuter is_in_field)
  of_outer es s cut.none = tt
  of_outer es s (cut.some {es = gs} {ps = ps} a) =
      of_parts true (IsInnerField is_in_field) (of_field (IsInner is_in_field) of_inner) gs ps a

  pub body_expressions : (es : List (Element Sited)) (ps : List BodyPart) → IsBody is_in_field es ps → AreExpressions (fields_of es)
  body_expressions es ps b = of_parts false (IsOuterField is_in_field) (of_field (IsOuter is_in_field) of_outer) es ps b

-- ---- The laws, from that of a field's tokens.

none_faulty : (fault : Kind → List ℕ → Option TokenError) (test : List ℕ → Bool)
    → ((ps : List Piece) → IsFieldExpression ps → has_fault_by fault ps ≡ false → test (expression_text ps) ≡ false)
    → (pss : List (List Piece)) → AreExpressions pss → list_any (has_fault_by fault) pss ≡ false
    → list_any (λ ps. test (expression_text ps)) pss ≡ false
none_faulty fault test h [] e n = refl
none_faulty fault test h (ps ∷ pss) e n =
    let p = or_parts (has_fault_by fault ps) (list_any (has_fault_by fault) pss) n in
    let a = h ps e.0 p.0 in
    rw a (none_faulty fault test h pss e.1 p.1)

module _ (own : (t : List ℕ) → all_scalars t ≡ true → HasOwnTokens t) where
  of_text : (ps : List Piece) → IsFieldExpression ps → HasOwnTokens (expression_text ps)
  of_text ps e = own (expression_text ps) (field_scalars ps e.scalars)

  -- what stands in a field of an f-string that stands in no field
  pub string_terminals : (es : List (Element Sited)) (ps : List BodyPart) → IsBody false es ps
      → terminals_of kinds.String (formatted_text false es)
      ≡ FormattedBegin ∷ (padded true (all_terminals (given_by (terminals_by true nested_expression)) es) ++ (FormattedEnd ∷ []))
  string_terminals es ps b =
      formatted_terminals_are (given_by (terminals_by true nested_expression)) expression
      (λ qs e. expression_is qs e (of_text qs e)) false es ps b

  -- and in one that stands in a field
  pub nested_string_terminals : (es : List (Element Sited)) (ps : List BodyPart) → IsBody true es ps
      → terminals_by true nested_expression kinds.String (formatted_text true es)
      ≡ FormattedBegin ∷ (padded true (all_terminals (given_by single_terminal) es) ++ (FormattedEnd ∷ []))
  nested_string_terminals es ps b =
      formatted_terminals_are (given_by single_terminal) nested_expression (λ qs e. nested_expression_is qs e (of_text qs e)) true es ps b

  pub string_faultless : (es : List (Element Sited)) (ps : List BodyPart) → IsBody false es ps
      → list_any (has_fault_by field_fault) (fields_of es) ≡ false
      → fault_of Whole kinds.String (formatted_text false es) ≡ None
  unfolding fault_of fault_by
  string_faultless es ps b n =
      let m = none_faulty field_fault is_faulty (λ qs e k. field_faultless qs e (of_text qs e) k) (fields_of es)
      (body_expressions false es ps b) n in
      formatted_faultless is_faulty false es ps b m

  pub nested_string_faultless : (es : List (Element Sited)) (ps : List BodyPart) → IsBody true es ps
      → list_any (has_fault_by (single_fault Whole)) (fields_of es) ≡ false
      → field_fault kinds.String (formatted_text true es) ≡ None
  unfolding fault_by
  nested_string_faultless es ps b n =
      let k = formatted_not_bulky es ps b in
      let m = none_faulty (single_fault Whole) is_nested_faulty (λ qs e k. nested_field_faultless qs e (of_text qs e) k) (fields_of es)
      (body_expressions true es ps b) n in
      rw k (formatted_faultless is_nested_faulty true es ps b m)
