-- The terminals of a written f-string are those of what it is written of, with an empty text wherever none is written between fields.
--
-- Carries: padded, formatted_terminals_are, for FormattedStrings and what reads f-strings back. On: FormattedTokens, FieldTokens.
use Rattle.std.proofs.Common.{◌≡◌, ℕ, Bool, true, false, not, List, [], ◌∷◌, ◌++◌, map, Option, refl, sym, ◌∙◌, ap, ap₂, append_assoc}
use Rattle.std.proofs.Common.{append-nil}
use Rattle.std.specs.List.{flat_map}
use Rattle.std.proofs.lemmas.Grind.{flat_map-append}
use Rattle.pyfstring.specs.Parts.{FieldParts, Part, BodyPart}
use Rattle.pylex_listing.specs.declared.kind.Kind.TheVariants as kinds
use Rattle.pylex_lexeme.specs.declared.kinds.Exact.TheVariants.{LPar, RPar}
use Rattle.pytoken.specs.FormattedStrings as read
use Rattle.pytoken.specs.FormattedStrings.{spec_elements, field_elements}
use Rattle.pytoken.specs.FormattedStrings.{part_elements}
use Rattle.pytoken.specs.FormattedStrings.{inner_elements, spec_part_elements, body_part_elements}
use Rattle.pytoken.specs.Terminals as tokens
use Rattle.pytoken.specs.Terminals.{Terminal, Op, FormattedBegin, FormattedEnd, FormattedText, FieldBegin, SpecBegin, FieldEnd}
use Rattle.pytoken.specs.Terminals.{terminals_by}
use Rattle.pyunparse_text.specs.Spacing.{Piece}
use Rattle.pyunparse_text.specs.Written.{Element, Text, Field, Spec, End}
use Rattle.pyunparse_text.specs.Pieces.{Sited, in_field, formatted_text}
use Rattle.pyunparse_text.proofs.FieldTexts.Conditions.{IsFieldExpression, expression_text}
use Rattle.pyunparse_text.proofs.FieldTexts.Texts.{text_comes_back}
use Rattle.pyunparse_text.proofs.FieldTexts.FormattedCuts as cut
use Rattle.pyunparse_text.proofs.FieldTexts.FormattedCuts.{IsWrittenField, a_written_field, AreParts, no_parts, a_text, a_field}
use Rattle.pyunparse_text.proofs.FieldTexts.FormattedCuts.{text_and_field}
use Rattle.pyunparse_text.proofs.FieldTexts.FormattedCuts.{IsInner, IsInnerField, IsOuter, IsOuterField, IsBody}
use Rattle.pyunparse_text.proofs.FieldTexts.FormattedTokens.{formatted_is, formatted_elements}

-- ---- What is written, as terminals.

-- an empty text, if one is wanting
abbrev pub wanting : Bool → List Terminal
wanting true = FormattedText [] ∷ []
wanting false = []

-- the terminals of elements, by whether a text is wanting before them
abbrev pub padded : Bool → List (Element Terminal) → List Terminal
padded b [] = wanting b
padded b (Text in_spec t ∷ es) = FormattedText t ∷ padded false es
padded b (Field c ts ∷ es) = wanting b ++ (FieldBegin c ∷ (Op LPar ∷ (ts ++ (Op RPar ∷ padded false es))))
padded b (Spec ∷ es) = SpecBegin ∷ padded true es
padded b (End ∷ es) = wanting b ++ (FieldEnd ∷ padded true es)

module _ (given : List Piece → List Terminal) where
  -- an element, whose field is given these terminals
  abbrev pub as_terminals : Element Sited → Element Terminal
  as_terminals (Text in_spec t) = Text in_spec t
  as_terminals (Field c ps) = Field c (given (in_field ps))
  as_terminals Spec = Spec
  as_terminals End = End

  abbrev pub all_terminals : List (Element Sited) → List (Element Terminal)
  all_terminals es = map as_terminals es

  module _ (expression : List ℕ → List Terminal)
      (reads : (ps : List Piece) → IsFieldExpression ps → expression (expression_text ps) ≡ Op LPar ∷ (given ps ++ (Op RPar ∷ [])))
      (is_in_field : Bool) where
    -- those of the elements that pytoken reads
    abbrev read_terminals : List read.Element → List Terminal
    read_terminals es = flat_map (tokens.element_terminals expression) es

    -- where a text may end: nothing more, or the end of a field
    data Closes : List (Element Sited) → Type 0 where
      at_end : Closes []
      before_end : {es : List (Element Sited)} → Closes (End ∷ es)

    closes_padded : (es : List (Element Sited)) → Closes es → padded true (all_terminals es) ≡ FormattedText [] ∷ padded
        false (all_terminals es)
    closes_padded es at_end = refl
    closes_padded es before_end = refl

    abbrev IsPaddedSpec : {S : Type 0} → (S → List read.Element) → (List (Element Sited) → Option S → Type 0) → Type 0
    IsPaddedSpec {S} elements IsSpecOf = (es : List (Element Sited)) (s : Option S) (rest : List (Element Sited)) → IsSpecOf es s
        → padded false (all_terminals (es ++ End ∷ rest)) ≡ read_terminals (spec_elements elements s) ++ padded false
        (all_terminals (End ∷ rest))

    abbrev IsPaddedField : {S : Type 0} → (S → List read.Element) → (List (Element Sited) → FieldParts S → Type 0) → Type 0
    IsPaddedField {S} elements IsFieldOf = (b : Bool) (es : List (Element Sited)) (f : FieldParts S) (rest : List (Element Sited))
        → IsFieldOf es f
        → padded b (all_terminals (es ++ rest)) ≡ wanting b ++ (read_terminals (field_elements elements f) ++ padded
        true (all_terminals rest))

    both_read : (xs ys : List read.Element) (ts : List Terminal) → read_terminals (xs ++ ys) ++ ts ≡ read_terminals xs ++
        (read_terminals ys ++ ts)
    both_read xs ys ts =
        ap (λ x. x ++ ts) (flat_map-append (tokens.element_terminals expression) xs ys)
        ∙ append_assoc (read_terminals xs) (read_terminals ys) ts

    field_padded : {S : Type 0} (elements : S → List read.Element) (IsSpecOf : List (Element Sited) → Option S → Type 0)
        → IsPaddedSpec elements IsSpecOf → IsPaddedField elements (IsWrittenField is_in_field IsSpecOf)
    field_padded elements IsSpecOf h b es f rest (a_written_field {c = c} {ps = ps} {es = ss} {s = s} e n i) =
        let t : List ℕ = expression_text (in_field ps) in
        let g : List Terminal = given (in_field ps) in
        let n : List Terminal = read_terminals (spec_elements elements s) in
        let m : List Terminal = read_terminals (spec_elements elements s ++ read.End ∷ []) in
        let p : List Terminal = padded true (all_terminals rest) in
        let later : padded false (all_terminals ((ss ++ End ∷ []) ++ rest)) ≡ m ++ p =
        ap (λ (xs : List (Element Sited)). padded false (all_terminals xs)) (append_assoc ss (End ∷ []) rest)
        ∙ h ss s rest i
        ∙ sym (ap (λ x. x ++ p) (flat_map-append (tokens.element_terminals expression) (spec_elements elements s) (read.End ∷ []))
        ∙ append_assoc n
        (FieldEnd ∷ []) p) in
        let whole : (expression t ++ m) ++ p ≡ Op LPar ∷ (g ++ (Op RPar ∷ (m ++ p))) =
        ap (λ x. (x ++ m) ++ p) (reads (in_field ps) e)
        ∙ ap (λ x. Op LPar ∷ x) (append_assoc (g ++ Op RPar ∷ []) m p ∙ append_assoc g (Op RPar ∷ []) (m ++ p)) in
        ap (λ x. wanting b ++ (FieldBegin c ∷ (Op LPar ∷ (g ++ (Op RPar ∷ x))))) later
        ∙ ap (λ x. wanting b ++ (FieldBegin c ∷ x)) (sym whole)

    parts_padded : {S : Type 0} (in_spec : Bool) (elements : S → List read.Element) (IsFieldOf : List (Element Sited)
        → FieldParts S → Type 0)
        → IsPaddedField elements IsFieldOf → (es : List (Element Sited)) (ps : List (Part S)) (rest : List (Element Sited)) → Closes rest
        → AreParts is_in_field in_spec IsFieldOf es ps
        → padded true (all_terminals (es ++ rest))
        ≡ read_terminals (flat_map (part_elements false (not in_spec) elements) ps) ++ padded false (all_terminals rest)
    parts_padded in_spec elements IsFieldOf h es ps rest k no_parts =
        closes_padded rest k ∙ ap (λ t. FormattedText t ∷ padded false (all_terminals rest))
        (sym (text_comes_back is_in_field in_spec [] refl))
    parts_padded in_spec elements IsFieldOf h es ps rest k (a_text {t = t} a) =
        ap (λ u. FormattedText u ∷ padded false (all_terminals rest)) (sym (text_comes_back is_in_field in_spec t a))
    parts_padded in_spec elements IsFieldOf h es ps rest k (a_field {es = gs} {fs = fs} {f = f} {ps = qs} g r) =
        let first : List Terminal = read_terminals (field_elements elements f) in
        let others : List Terminal = read_terminals (flat_map (part_elements false (not in_spec) elements) qs) in
        let last : List Terminal = padded false (all_terminals rest) in
        ap (λ (xs : List (Element Sited)). padded true (all_terminals xs)) (append_assoc gs fs rest)
        ∙ h true gs f (fs ++ rest) g
        ∙ ap (λ x. FormattedText [] ∷ (first ++ x)) (parts_padded in_spec elements IsFieldOf h fs qs rest k r)
        ∙ ap₂ (λ u x. FormattedText u ∷ x) (sym (text_comes_back is_in_field in_spec [] refl))
        (sym (both_read (field_elements elements f) (flat_map (part_elements false (not in_spec) elements) qs) last))
    parts_padded in_spec elements IsFieldOf h es ps rest k (text_and_field {t = t} {es = gs} {fs = fs} {f = f} {ps = qs} a g r) =
        let first : List Terminal = read_terminals (field_elements elements f) in
        let others : List Terminal = read_terminals (flat_map (part_elements false (not in_spec) elements) qs) in
        let last : List Terminal = padded false (all_terminals rest) in
        ap (λ (xs : List (Element Sited)). FormattedText t ∷ padded false (all_terminals xs)) (append_assoc gs fs rest)
        ∙ ap (λ x. FormattedText t ∷ x) (h false gs f (fs ++ rest) g)
        ∙ ap (λ x. FormattedText t ∷ (first ++ x)) (parts_padded in_spec elements IsFieldOf h fs qs rest k r)
        ∙ ap₂ (λ u x. FormattedText u ∷ x) (sym (text_comes_back is_in_field in_spec t a))
        (sym (both_read (field_elements elements f) (flat_map (part_elements false (not in_spec) elements) qs) last))

    inner_padded : IsPaddedSpec (inner_elements false) (IsInner is_in_field)
    inner_padded es s rest cut.none = refl
    inner_padded es s rest cut.empty =
        ap (λ u. SpecBegin ∷ (FormattedText u ∷ (FieldEnd ∷ padded true (all_terminals rest))))
        (sym (text_comes_back is_in_field true [] refl))
    inner_padded es s rest (cut.one {t = t} a) =
        ap (λ u. SpecBegin ∷ (FormattedText u ∷ (FieldEnd ∷ padded true (all_terminals rest)))) (sym (text_comes_back is_in_field true t a))

    outer_padded : IsPaddedSpec (spec_part_elements false) (IsOuter is_in_field)
    outer_padded es s rest cut.none = refl
    outer_padded es s rest (cut.some {es = gs} {ps = ps} a) =
        ap (λ x. SpecBegin ∷ x)
        (parts_padded true (inner_elements false) (IsInnerField is_in_field)
        (field_padded (inner_elements false) (IsInner is_in_field) inner_padded) gs ps (End ∷ rest) before_end a)

    body_padded : (es : List (Element Sited)) (ps : List BodyPart) → IsBody is_in_field es ps
        → padded true (all_terminals es) ≡ read_terminals (body_part_elements false ps)
    body_padded es ps b =
        ap (λ (xs : List (Element Sited)). padded true (all_terminals xs)) (sym (append-nil es))
        ∙ parts_padded false (spec_part_elements false) (IsOuterField is_in_field)
        (field_padded (spec_part_elements false) (IsOuter is_in_field) outer_padded) es ps [] at_end b
        ∙ append-nil (read_terminals (body_part_elements false ps))

    -- The law: its terminals are those of what it is written of.
    pub formatted_terminals_are : (es : List (Element Sited)) (ps : List BodyPart) → IsBody is_in_field es ps
        → terminals_by is_in_field expression kinds.String (formatted_text is_in_field es)
        ≡ FormattedBegin ∷ (padded true (all_terminals es) ++ (FormattedEnd ∷ []))
    unfolding terminals_by
    formatted_terminals_are es ps b =
        let f = formatted_is is_in_field es ps b in
        let e = formatted_elements is_in_field es ps b in
        rw (f, e) (ap (λ ts. FormattedBegin ∷ (ts ++ (FormattedEnd ∷ []))) (sym (body_padded es ps b)))
