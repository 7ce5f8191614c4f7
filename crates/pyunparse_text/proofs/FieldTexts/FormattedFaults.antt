-- A written f-string has no fault where no field of it has one.
--
-- Carries: fields_of, formatted_faultless, for what reads f-strings back. On: FormattedTokens.
use Rattle.std.proofs.Common.{◌≡◌, ℕ, Bool, true, false, not, ◌||◌, List, [], ◌∷◌, ◌++◌, Option, None, refl, sym, ◌∙◌, ap, ap₂, append-nil}
use Rattle.std.specs.List.{list_any, flat_map}
use Rattle.std.proofs.lemmas.Grind.{flat_map-append}
use Rattle.std.proofs.lemmas.List.Folds.{list_any-append}
use Rattle.pyfstring.specs.Parts.{FieldParts, Part, BodyPart}
use Rattle.pytoken.specs.declared.meanings.Meaning.{Meaning}
use Rattle.pytoken.specs.Escapes.{is_named_escape, is_bad_escape, escape_fault}
use Rattle.pytoken.specs.FormattedStrings as read
use Rattle.pytoken.specs.FormattedStrings.{spec_elements, field_elements, part_elements, inner_elements, spec_part_elements}
use Rattle.pytoken.specs.FormattedStrings.{body_part_elements}
use Rattle.pytoken.specs.FormattedStrings.{text_element, element_meanings, is_field_of, elements_of, elements_fault}
use Rattle.pyunparse_text.specs.Spacing.{Piece}
use Rattle.pyunparse_text.specs.Written.{Element, Text, Field, Spec, End}
use Rattle.pyunparse_text.specs.Pieces.{Sited, in_field, formatted_text}
use Rattle.pyunparse_text.proofs.FieldTexts.Conditions.{expression_text}
use Rattle.pyunparse_text.proofs.FieldTexts.Texts.{text_source, IsText, text_sound}
use Rattle.pyunparse_text.proofs.FieldTexts.FormattedCuts as cut
use Rattle.pyunparse_text.proofs.FieldTexts.FormattedCuts.{IsWrittenField, a_written_field, AreParts, no_parts, a_text, a_field}
use Rattle.pyunparse_text.proofs.FieldTexts.FormattedCuts.{text_and_field}
use Rattle.pyunparse_text.proofs.FieldTexts.FormattedCuts.{IsInner, IsInnerField, IsOuter, IsOuterField, IsBody}
use Rattle.pyunparse_text.proofs.FieldTexts.FormattedTokens.{formatted_elements, formatted_no_nul}

-- the expressions of the fields
abbrev pub field_of : Element Sited → List (List Piece)
field_of (Field c ps) = in_field ps ∷ []
field_of _ = []

abbrev pub fields_of : List (Element Sited) → List (List Piece)
fields_of es = flat_map field_of es

module _ (test : List ℕ → Bool) (is_in_field : Bool) where
  abbrev any_field : List (Element Sited) → Bool
  any_field es = list_any (λ ps. test (expression_text ps)) (fields_of es)

  -- what is read of elements: no escape with a fault, and just their fields
  record Reads (es : List (Element Sited)) (rs : List read.Element) : Type 0 where
    pub named : list_any is_named_escape (flat_map element_meanings rs) ≡ false
    pub bad : list_any is_bad_escape (flat_map element_meanings rs) ≡ false
    pub fields : list_any (is_field_of test) rs ≡ any_field es

  no_escape : (f : Meaning → Bool) (xs ys : List read.Element) → list_any f (flat_map element_meanings xs) ≡ false
      → list_any f (flat_map element_meanings ys) ≡ false → list_any f (flat_map element_meanings (xs ++ ys)) ≡ false
  no_escape f xs ys a b =
      let c = flat_map-append element_meanings xs ys in
      let d = list_any-append f (flat_map element_meanings xs) (flat_map element_meanings ys) in
      ap (list_any f) c ∙ d ∙ ap₂ (λ x y. x || y) a b

  both : (es fs : List (Element Sited)) (rs qs : List read.Element) → Reads es rs → Reads fs qs → Reads (es ++ fs) (rs ++ qs)
  both es fs rs qs x y = record {
    named = no_escape is_named_escape rs qs x.named y.named;
    bad = no_escape is_bad_escape rs qs x.bad y.bad;
    fields = list_any-append (is_field_of test) rs qs ∙ ap₂ (λ a b. a || b) x.fields y.fields
        ∙ sym (ap (list_any (λ ps. test (expression_text ps))) (flat_map-append field_of es fs)
        ∙ list_any-append (λ ps. test (expression_text ps))
        (fields_of es) (fields_of fs));
  }

  nothing : Reads [] []
  nothing = record { named = refl; bad = refl; fields = refl }

  -- a text, or an empty one where none is written
  text_reads : (in_spec : Bool) (t : List ℕ) → IsText is_in_field in_spec t
      → Reads (Text in_spec t ∷ []) (text_element false (not in_spec) (text_source is_in_field in_spec t) ∷ [])
  text_reads in_spec t a =
      let s = text_sound is_in_field in_spec t a in
      record { named = no_more is_named_escape s.0; bad = no_more is_bad_escape s.1; fields = refl }
    where
      no_more : (f : Meaning → Bool)
          → list_any f (read.text_meanings (record { is_raw = false; has_pairs = not in_spec; source = text_source is_in_field in_spec t }))
          ≡ false
          → list_any f (read.text_meanings (record { is_raw = false; has_pairs = not in_spec; source = text_source is_in_field in_spec t })
          ++ [])
          ≡ false
      no_more f e =
          ap (list_any f)
          (append-nil (read.text_meanings (record { is_raw = false; has_pairs = not in_spec; source = text_source is_in_field in_spec t })))
          ∙ e

  -- a text is no field
  without_text : (in_spec : Bool) (t : List ℕ) (es : List (Element Sited)) (rs : List read.Element)
      → Reads (Text in_spec t ∷ es) rs → Reads es rs
  without_text in_spec t es rs x = record { named = x.named; bad = x.bad; fields = x.fields }

  abbrev AreRead : {S : Type 0} → (S → List read.Element) → (List (Element Sited) → Option S → Type 0) → Type 0
  AreRead {S} elements IsSpecOf = (es : List (Element Sited)) (s : Option S) → IsSpecOf es s → Reads es (spec_elements elements s)

  abbrev FieldsAreRead : {S : Type 0} → (S → List read.Element) → (List (Element Sited) → FieldParts S → Type 0) → Type 0
  FieldsAreRead {S} elements IsFieldOf = (es : List (Element Sited)) (f : FieldParts S) → IsFieldOf es f
      → Reads es (field_elements elements f)

  field_reads : {S : Type 0} (elements : S → List read.Element) (IsSpecOf : List (Element Sited) → Option S → Type 0)
      → AreRead elements IsSpecOf
      → FieldsAreRead elements (IsWrittenField is_in_field IsSpecOf)
  field_reads elements IsSpecOf h es f (a_written_field {c = c} {ps = ps} {es = ss} {s = s} e n i) =
      both (Field c ps ∷ []) (ss ++ End ∷ []) (read.Field c (expression_text (in_field ps)) ∷ [])
      (spec_elements elements s ++ read.End ∷ [])
      (record { named = refl; bad = refl; fields = refl })
      (both ss (End ∷ []) (spec_elements elements s) (read.End ∷ []) (h ss s i) (record { named = refl; bad = refl; fields = refl }))

  parts_read : {S : Type 0} (in_spec : Bool) (elements : S → List read.Element) (IsFieldOf : List (Element Sited) → FieldParts S → Type 0)
      → FieldsAreRead elements IsFieldOf → (es : List (Element Sited)) (ps : List (Part S)) → AreParts is_in_field in_spec IsFieldOf es ps
      → Reads es (flat_map (part_elements false (not in_spec) elements) ps)
  parts_read in_spec elements IsFieldOf h es ps no_parts =
      without_text in_spec [] [] (text_element false (not in_spec) [] ∷ []) (text_reads in_spec [] refl)
  parts_read in_spec elements IsFieldOf h es ps (a_text {t = t} a) = text_reads in_spec t a
  parts_read in_spec elements IsFieldOf h es ps (a_field {es = gs} {fs = fs} {f = f} {ps = qs} g r) =
      let later : List read.Element = flat_map (part_elements false (not in_spec) elements) qs in
      without_text in_spec [] (gs ++ fs) (text_element false (not in_spec) [] ∷ (field_elements elements f ++ later))
      (both (Text in_spec [] ∷ []) (gs ++ fs) (text_element false (not in_spec) [] ∷ []) (field_elements elements f ++ later)
      (text_reads in_spec [] refl)
      (both gs fs (field_elements elements f) later (h gs f g) (parts_read in_spec elements IsFieldOf h fs qs r)))
  parts_read in_spec elements IsFieldOf h es ps (text_and_field {t = t} {es = gs} {fs = fs} {f = f} {ps = qs} a g r) =
      let later : List read.Element = flat_map (part_elements false (not in_spec) elements) qs in
      both (Text in_spec t ∷ []) (gs ++ fs) (text_element false (not in_spec) (text_source is_in_field in_spec t) ∷ [])
      (field_elements elements f ++ later) (text_reads in_spec t a)
      (both gs fs (field_elements elements f) later (h gs f g) (parts_read in_spec elements IsFieldOf h fs qs r))

  spec_begins : Reads (Spec ∷ []) (read.Spec ∷ [])
  spec_begins = record { named = refl; bad = refl; fields = refl }

  inner_reads : AreRead (inner_elements false) (IsInner is_in_field)
  inner_reads es s cut.none = nothing
  inner_reads es s cut.empty =
      both (Spec ∷ []) [] (read.Spec ∷ []) (inner_elements false []) spec_begins
      (without_text true [] [] (inner_elements false []) (text_reads true [] refl))
  inner_reads es s (cut.one {t = t} a) =
      both (Spec ∷ []) (Text true t ∷ []) (read.Spec ∷ []) (inner_elements false (text_source is_in_field true t))
      spec_begins (text_reads true t a)

  outer_reads : AreRead (spec_part_elements false) (IsOuter is_in_field)
  outer_reads es s cut.none = nothing
  outer_reads es s (cut.some {es = gs} {ps = ps} a) =
      both (Spec ∷ []) gs (read.Spec ∷ []) (spec_part_elements false ps) spec_begins
      (parts_read true (inner_elements false) (IsInnerField is_in_field)
      (field_reads (inner_elements false) (IsInner is_in_field) inner_reads) gs ps a)

  body_reads : (es : List (Element Sited)) (ps : List BodyPart) → IsBody is_in_field es ps → Reads es (body_part_elements false ps)
  body_reads es ps b =
      parts_read false (spec_part_elements false) (IsOuterField is_in_field)
      (field_reads (spec_part_elements false) (IsOuter is_in_field) outer_reads) es ps b

  -- The law: where the test passes for no expression of its fields, it has no fault.
  pub formatted_faultless : (es : List (Element Sited)) (ps : List BodyPart) → IsBody is_in_field es ps
      → list_any (λ qs. test (expression_text qs)) (fields_of es) ≡ false
      → elements_fault test (formatted_text is_in_field es) (elements_of is_in_field (formatted_text is_in_field es)) ≡ None
  unfolding elements_fault escape_fault
  formatted_faultless es ps b n =
      let r = body_reads es ps b in
      let e = formatted_elements is_in_field es ps b in
      let z = formatted_no_nul is_in_field es ps b in
      let f = r.fields in
      let m = r.named in
      let w = r.bad in
      rw (e, f, n, m, w, z) refl
