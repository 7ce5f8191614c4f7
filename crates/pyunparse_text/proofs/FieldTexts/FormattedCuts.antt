-- The body of an f-string is cut into the texts and fields that it is written of (reference 2.4.3).
--
-- Carries: IsBody, body_cut, for FormattedBodies, FormattedTokens. On: FieldScans, Texts.
use Rattle.std.proofs.Common.{◌≡◌, ℕ, Bool, true, false, not, List, [], ◌∷◌, ◌++◌, Option, Some, None, refl, sym, ◌∙◌, ap, subst}
use Rattle.std.proofs.Common.{append_assoc}
use Rattle.std.proofs.Common.{append-nil, inl, inr, is_some}
use Rattle.std.specs.List.{list_all, flat_map}
use Rattle.std.proofs.lemmas.Grind.{flat_map-append}
use Rattle.std.proofs.lemmas.Bool.{cases_Bool, and_parts}
use Rattle.pyfstring.specs.declared.parts.Conversion.{Conversion}
use Rattle.pyfstring.specs.declared.parts.Conversion.TheVariants as conversions
use Rattle.pyfstring.specs.declared.parts.Manner.{Manner}
use Rattle.pyfstring.specs.Texts.{begins_with}
use Rattle.pyfstring.specs.Parts.{FieldParts, Part, text, field, SpecPart, BodyPart}
use Rattle.pyfstring.specs.Pieces as cuts
use Rattle.pyfstring.specs.Pieces.{unkept, Converts, unconverted, by_str, by_repr, by_ascii, conversion_of, Specifies}
use Rattle.pyfstring.specs.Pieces.{unspecified, specified, IsField, Cuts, last_text, and_field, IsInnerSpec, IsSpec, IsCut}
use Rattle.pyfstring.specs.Cutting.{cut_of}
use Rattle.pyfstring.proofs.Callers.Law.{cut_of_complete}
use Rattle.pylex_listing.specs.declared.kind.Kind.TheVariants as kinds
use Rattle.pyunparse_text.specs.Spacing.{Piece, is_token, text_following, all_apart, are_readable}
use Rattle.pyunparse_text.specs.Written.{Element, Text, Field, Spec, End}
use Rattle.pyunparse_text.specs.Pieces.{Sited, in_field, conversion_text, field_text, element_text}
use Rattle.pyunparse_text.proofs.LexemeFronts.PieceFronts.{none_empty}
use Rattle.pyunparse_text.proofs.FieldTexts.Conditions.{IsFieldExpression, expression_text, EndsExpression, brace, spec, conversion}
use Rattle.pyunparse_text.proofs.FieldTexts.FieldScans.{field_scanned, field_not_blank}
use Rattle.pyunparse_text.proofs.FieldTexts.Texts.{text_source, IsText, EndsText, nothing, opener, brace_next, text_passed}

-- ---- What is written, one thing after another, and what it is cut into.

-- in a field of an f-string that stands in a field itself there are no literals
abbrev pub is_allowed : Bool → Piece → Bool
is_allowed is_in_field p = elim p.kind [ kinds.String ↦ not is_in_field | _ ↦ true ]

-- a field, by whether its f-string stands in a field, where a relation says which elements are which format spec
pub data IsWrittenField (is_in_field : Bool) {S : Type 0} (IsSpecOf : List (Element Sited) → Option S → Type 0) : List
    (Element Sited) → FieldParts S
    → Type 0 where
  a_written_field : {c : Conversion} {ps : List Sited} {es : List (Element Sited)} {s : Option S} → IsFieldExpression (in_field ps)
      → list_all (is_allowed is_in_field) (in_field ps) ≡ true → IsSpecOf es s
      → IsWrittenField is_in_field IsSpecOf (Field c ps ∷ (es ++ End ∷ []))
      (record { text = expression_text (in_field ps); kept = None; conversion = c; spec = s })

-- texts and fields, no two texts side by side, in a body or in a format spec
pub data AreParts (is_in_field in_spec : Bool) {S : Type 0} (IsFieldOf : List (Element Sited) → FieldParts S
    → Type 0) : List (Element Sited) → List
    (Part S) → Type 0 where
  no_parts : AreParts is_in_field in_spec IsFieldOf [] (text [] ∷ [])
  a_text : {t : List ℕ} → IsText is_in_field in_spec t
      → AreParts is_in_field in_spec IsFieldOf (Text in_spec t ∷ []) (text (text_source is_in_field in_spec t) ∷ [])
  a_field : {es fs : List (Element Sited)} {f : FieldParts S} {ps : List (Part S)} → IsFieldOf es f
      → AreParts is_in_field in_spec IsFieldOf fs ps
      → AreParts is_in_field in_spec IsFieldOf (es ++ fs) (text [] ∷ field f ∷ ps)
  text_and_field : {t : List ℕ} {es fs : List (Element Sited)} {f : FieldParts S} {ps : List (Part S)}
      → IsText is_in_field in_spec t → IsFieldOf es f
      → AreParts is_in_field in_spec IsFieldOf fs ps
      → AreParts is_in_field in_spec IsFieldOf (Text in_spec t ∷ (es ++ fs)) (text (text_source is_in_field in_spec t) ∷ field f ∷ ps)

-- the format spec of a field in a spec: at most one text
pub data IsInner (is_in_field : Bool) : List (Element Sited) → Option (List ℕ) → Type 0 where
  none : IsInner is_in_field [] None
  empty : IsInner is_in_field (Spec ∷ []) (Some [])
  one : {t : List ℕ} → IsText is_in_field true t → IsInner is_in_field (Spec ∷ Text true t ∷ []) (Some (text_source is_in_field true t))

abbrev pub IsInnerField : Bool → List (Element Sited) → FieldParts (List ℕ) → Type 0
IsInnerField is_in_field = IsWrittenField is_in_field (IsInner is_in_field)

-- that of a field in a body
pub data IsOuter (is_in_field : Bool) : List (Element Sited) → Option (List SpecPart) → Type 0 where
  none : IsOuter is_in_field [] None
  some : {es : List (Element Sited)} {ps : List SpecPart} → AreParts is_in_field true (IsInnerField is_in_field) es ps
      → IsOuter is_in_field (Spec ∷ es) (Some ps)

abbrev pub IsOuterField : Bool → List (Element Sited) → FieldParts (List SpecPart) → Type 0
IsOuterField is_in_field = IsWrittenField is_in_field (IsOuter is_in_field)

-- a body
abbrev pub IsBody : Bool → List (Element Sited) → List BodyPart → Type 0
IsBody is_in_field = AreParts is_in_field false (IsOuterField is_in_field)

-- ---- Its text.

abbrev pub elements_text : Bool → List (Element Sited) → List ℕ
elements_text is_in_field es = flat_map (element_text is_in_field) es

-- no brace stands after the brace of a field
no_second_brace : (ps : List Piece) (r : List ℕ) → are_readable ps ≡ true → begins_with 123 (expression_text ps ++ r) ≡ false
no_second_brace [] r e = cc
no_second_brace (p ∷ ps) r e =
    let a = and_parts (list_all (λ q. is_token q.kind q.text) (p ∷ ps)) (all_apart p ps) e in
    let i = (and_parts (is_token p.kind p.text) (list_all (λ q. is_token q.kind q.text) ps) a.0).0 in
    elim (cases_Bool (begins_with 123 p.text)) [
      | inl h ↦ rw h refl
      | inr h ↦ rw h (head p.text i h)
    ]
  where
    head : (t : List ℕ) → is_token p.kind t ≡ true → begins_with 123 t ≡ false → begins_with 123 ((t ++ text_following p ps) ++ r) ≡ false
    head [] i h = absurd (none_empty p.kind i)
    head (c ∷ t) i h = h

-- the text of a field
pub field_text_is : (ps : List Piece) → field_text ps ≡ 123 ∷ expression_text ps
field_text_is [] = refl
field_text_is (p ∷ ps) = refl

-- what is after an expression: a conversion perhaps, and a spec or the end
data IsFollowing : List ℕ → Type 0 where
  colon : {r : List ℕ} → IsFollowing (58 ∷ r)
  closing : {r : List ℕ} → IsFollowing (125 ∷ r)

ends_expression : (c : Conversion) (r : List ℕ) → IsFollowing r → EndsExpression (conversion_text c ++ r)
ends_expression conversions.None [] i = elim i [ ]
ends_expression conversions.None (_ ∷ r) colon = spec
ends_expression conversions.None (_ ∷ r) closing = brace
ends_expression conversions.Str r i = conversion refl
ends_expression conversions.Repr r i = conversion refl
ends_expression conversions.Ascii r i = conversion refl

no_equals : (c : Conversion) (r : List ℕ) → IsFollowing r → begins_with 61 (conversion_text c ++ r) ≡ false
no_equals conversions.None [] i = elim i [ ]
no_equals conversions.None (_ ∷ r) colon = refl
no_equals conversions.None (_ ∷ r) closing = refl
no_equals conversions.Str r i = refl
no_equals conversions.Repr r i = refl
no_equals conversions.Ascii r i = refl

no_mark : (r : List ℕ) → IsFollowing r → begins_with 33 r ≡ false
no_mark [] i = elim i [ ]
no_mark (_ ∷ r) colon = refl
no_mark (_ ∷ r) closing = refl

converts : (c : Conversion) (r : List ℕ) → IsFollowing r → Converts (conversion_text c ++ r) c r
converts conversions.None r i = unconverted (no_mark r i)
converts conversions.Str r i = by_str
converts conversions.Repr r i = by_repr
converts conversions.Ascii r i = by_ascii

same_conversion : (c : Conversion) (b : Bool) → c ≡ conversion_of c false b
same_conversion conversions.None b = refl
same_conversion conversions.Str b = refl
same_conversion conversions.Repr b = refl
same_conversion conversions.Ascii b = refl

-- a format spec, with its colon, before the end of its field
abbrev IsSpecified : {S : Type 0} → Bool → (List ℕ → S → List ℕ → Type 0) → (List (Element Sited) → Option S → Type 0) → Type 0
IsSpecified {S} is_in_field IsSpecAt IsSpecOf = (es : List (Element Sited)) (s : Option S) (rest : List ℕ) → IsSpecOf es s
    → (Specifies IsSpecAt (elements_text is_in_field es ++ 125 ∷ rest) s (125 ∷ rest)) ×
    (IsFollowing (elements_text is_in_field es ++ 125 ∷ rest))

-- a field, after its brace
abbrev IsCutField : {S : Type 0} → Bool → (List ℕ → FieldParts S → List ℕ → Type 0)
    → (List (Element Sited) → FieldParts S → Type 0) → Type 0
IsCutField {S} is_in_field IsFieldAt IsFieldOf = (es : List (Element Sited)) (f : FieldParts S) (rest : List ℕ) → IsFieldOf es f
    → (inside : List ℕ) × (elements_text is_in_field es ++ rest ≡ 123 ∷ inside) × (begins_with 123 inside ≡ false) ×
    (IsFieldAt inside f rest)

whole_field : (is_in_field : Bool) (c : Conversion) (ps : List Sited) (ss : List (Element Sited)) (rest : List ℕ)
    → elements_text is_in_field (Field c ps ∷ (ss ++ End ∷ [])) ++ rest
    ≡ 123 ∷ (expression_text (in_field ps) ++ (conversion_text c ++ (elements_text is_in_field ss ++ 125 ∷ rest)))
whole_field is_in_field c ps ss rest =
    let u : List ℕ = field_text (in_field ps) in
    let v : List ℕ = conversion_text c in
    let w : List ℕ = elements_text is_in_field ss in
    ap (λ x. ((u ++ v) ++ x) ++ rest) (flat_map-append (element_text is_in_field) ss (End ∷ []))
    ∙ append_assoc (u ++ v) (w ++ 125 ∷ []) rest
    ∙ append_assoc u v ((w ++ 125 ∷ []) ++ rest)
    ∙ ap (λ x. u ++ (v ++ x)) (append_assoc w (125 ∷ []) rest)
    ∙ ap (λ x. x ++ (v ++ (w ++ 125 ∷ rest))) (field_text_is (in_field ps))

field_cut : {S : Type 0} (is_in_field is_nested : Bool) (IsSpecAt : List ℕ → S → List ℕ → Type 0)
    (IsSpecOf : List (Element Sited) → Option S → Type 0) → IsSpecified is_in_field IsSpecAt IsSpecOf
    → IsCutField is_in_field (IsField IsSpecAt is_nested) (IsWrittenField is_in_field IsSpecOf)
field_cut is_in_field is_nested IsSpecAt IsSpecOf h es f rest (a_written_field {c = c} {ps = ps} {es = ss} {s = s} e n i) =
    let qs : List Piece = in_field ps in
    let at = h ss s rest i in
    let later : List ℕ = elements_text is_in_field ss ++ 125 ∷ rest in
    let following : List ℕ = conversion_text c ++ later in (
      expression_text qs ++ following,
      whole_field is_in_field c ps ss rest,
      no_second_brace qs following e.readable,
      record {
        after_expression = following;
        after_kept = following;
        after_conversion = later;
        given = c;
        expression =
            record {
              whole = refl;
              scanned = field_scanned qs following e (ends_expression c later at.1);
              some =
                  field_not_blank qs e.readable;
            };
        keeps = unkept (no_equals c later at.1);
        converts = converts c later at.1;
        conversion = same_conversion c (is_some s);
        specifies = at.0;
      },
    )

-- ---- Texts and fields.

opens_field : (in_spec : Bool) (inside : List ℕ) → begins_with 123 inside ≡ false → EndsText in_spec (123 ∷ inside)
opens_field false inside n = opener n
opens_field true inside n = brace_next refl

both_texts : (is_in_field : Bool) (es fs : List (Element Sited)) (rest : List ℕ)
    → elements_text is_in_field (es ++ fs) ++ rest ≡ elements_text is_in_field es ++ (elements_text is_in_field fs ++ rest)
both_texts is_in_field es fs rest =
    ap (λ x. x ++ rest) (flat_map-append (element_text is_in_field) es fs)
    ∙ append_assoc (elements_text is_in_field es) (elements_text is_in_field fs) rest

module _ (is_in_field in_spec : Bool) {S : Type 0} (IsFieldAt : List ℕ → FieldParts S → List ℕ → Type 0)
    (IsFieldOf : List (Element Sited) → FieldParts S → Type 0) (h : IsCutField is_in_field IsFieldAt IsFieldOf) where
  abbrev AreCut : List ℕ → List (Part S) → List ℕ → Type 0
  AreCut cs ps rest = Cuts false (not in_spec) IsFieldAt cs ps rest

  -- a text, and what ends it
  text_taken : (t rest : List ℕ) → IsText is_in_field in_spec t → EndsText in_spec rest
      → cuts.IsText false (not in_spec) (text_source is_in_field in_spec t ++ rest) (text_source is_in_field in_spec t) rest
  text_taken t rest a e = record { whole = refl; longest = text_passed is_in_field in_spec t rest a e }

  parts_cut : (es : List (Element Sited)) (ps : List (Part S)) (rest : List ℕ) → EndsText in_spec rest → begins_with 123 rest ≡ false
      → AreParts is_in_field in_spec IsFieldOf es ps → AreCut (elements_text is_in_field es ++ rest) ps rest
  parts_cut es ps rest e n no_parts = last_text (text_taken [] rest refl e) n
  parts_cut es ps rest e n (a_text {t = t} a) =
      subst (λ (cs : List ℕ). AreCut (cs ++ rest) (text (text_source is_in_field in_spec t) ∷ []) rest)
      (sym (append-nil (text_source is_in_field in_spec t))) (last_text (text_taken t rest a e) n)
  parts_cut es ps rest e n (a_field {es = gs} {fs = fs} {f = f} {ps = qs} g r) =
      let later : List ℕ = elements_text is_in_field fs ++ rest in
      let i = h gs f later g in
      subst (λ (cs : List ℕ). AreCut cs (text [] ∷ field f ∷ qs) rest) (sym (both_texts is_in_field gs fs rest ∙ i.1))
      (and_field (text_taken [] (123 ∷ i.0) refl (opens_field in_spec i.0 i.2)) i.3 (parts_cut fs qs rest e n r))
  parts_cut es ps rest e n (text_and_field {t = t} {es = gs} {fs = fs} {f = f} {ps = qs} a g r) =
      let later : List ℕ = elements_text is_in_field fs ++ rest in
      let s : List ℕ = text_source is_in_field in_spec t in
      let i = h gs f later g in
      subst (λ (cs : List ℕ). AreCut cs (text s ∷ field f ∷ qs) rest)
      (sym (append_assoc s (elements_text is_in_field (gs ++ fs)) rest ∙ ap (λ x. s ++ x) (both_texts is_in_field gs fs rest ∙ i.1)))
      (and_field (text_taken t (123 ∷ i.0) a (opens_field in_spec i.0 i.2)) i.3 (parts_cut fs qs rest e n r))

-- ---- Format specs.

manner : Bool → Manner
manner is_nested = record { is_raw = false; is_nested = is_nested }

module _ (is_in_field is_nested : Bool) where
  inner_specified : IsSpecified is_in_field (IsInnerSpec (manner is_nested)) (IsInner is_in_field)
  unfolding manner
  inner_specified es s rest none = (unspecified refl, closing)
  inner_specified es s rest empty =
      (specified (record { whole = refl; longest = text_passed is_in_field true [] (125 ∷ rest) refl (brace_next refl) }), colon)
  inner_specified es s rest (one {t = t} a) =
      let u : List ℕ = text_source is_in_field true t in (
        subst (λ (x : List ℕ). Specifies (IsInnerSpec (manner is_nested)) (58 ∷ x ++ 125 ∷ rest) (Some u) (125 ∷ rest)) (sym (append-nil u))
            (specified (record { whole = refl; longest = text_passed is_in_field true t (125 ∷ rest) a (brace_next refl) })),
        colon,
      )

  inner_cut : IsCutField is_in_field (IsField (IsInnerSpec (manner is_nested)) is_nested) (IsInnerField is_in_field)
  inner_cut = field_cut is_in_field is_nested (IsInnerSpec (manner is_nested)) (IsInner is_in_field) inner_specified

  outer_specified : IsSpecified is_in_field (IsSpec (manner is_nested)) (IsOuter is_in_field)
  unfolding manner
  outer_specified es s rest none = (unspecified refl, closing)
  outer_specified es s rest (some {es = gs} {ps = ps} a) = (
    specified (parts_cut is_in_field true (IsField (IsInnerSpec (manner is_nested)) is_nested) (IsInnerField is_in_field) inner_cut gs ps
        (125 ∷ rest) (brace_next refl) refl a),
    colon,
  )

  outer_cut : IsCutField is_in_field (IsField (IsSpec (manner is_nested)) is_nested) (IsOuterField is_in_field)
  outer_cut = field_cut is_in_field is_nested (IsSpec (manner is_nested)) (IsOuter is_in_field) outer_specified

  -- The law: the body is cut into these parts.
  pub body_cut : (es : List (Element Sited)) (ps : List BodyPart) → IsBody is_in_field es ps
      → cut_of (record { is_raw = false; is_nested = is_nested }) (elements_text is_in_field es) ≡ Some ps
  unfolding manner
  body_cut es ps b =
      cut_of_complete (manner is_nested) (elements_text is_in_field es) ps
      (subst (λ (cs : List ℕ). IsCut (manner is_nested) cs ps) (append-nil (elements_text is_in_field es))
      (parts_cut is_in_field false (IsField (IsSpec (manner is_nested)) is_nested) (IsOuterField is_in_field) outer_cut
      es ps [] nothing refl b))
