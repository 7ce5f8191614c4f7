-- Carries: Marks::new. On: how many spans the parts of an f-string have.
use Rattle.std.proofs.Common.{◌≡◌, ℕ, suc, ◌+◌, Bool, true, false, List, [], ◌∷◌, ◌++◌, length, refl, sym, ap, ◌∙◌, arith}
use Rattle.std.proofs.Common.{length-append, Option, Some, None}
use Rattle.std.specs.Prelude.{if◌then◌else◌}
use Rattle.std.specs.List.{list_any, flat_map, prefix_len}
use Rattle.std.specs.Str.{all_scalars}
use Rattle.std.proofs.Math.Utf8.{scalar}
use Rattle.std.proofs.lemmas.Bool.{and_parts, or_parts}
use Rattle.pylex_listing.proofs.Callers.{scalars_of}
use Rattle.pyfstring.specs.Characters.{exclamation_mark, colon, equals_sign, small_a, small_r, small_s, left_curly_bracket}
use Rattle.pyfstring.specs.Characters.{right_curly_bracket}
use Rattle.pyfstring.specs.declared.parts.Conversion.{Conversion}
use Rattle.pyfstring.specs.declared.parts.Manner.{Manner}
use Rattle.pyfstring.specs.Parts.{FieldParts, Part, text, field, SpecPart, BodyPart}
use Rattle.pyfstring.specs.Pieces.{IsText, Keeps, unkept, kept, Converts, unconverted, by_str, by_repr, by_ascii, Specifies, unspecified}
use Rattle.pyfstring.specs.Pieces.{specified, IsField, Cuts, last_text, and_field, IsInnerSpec, IsSpec, IsCut, is_blank_or_tabulation}
use Rattle.pytoken.specs.FormattedStrings.{Element, Field, End, kept_elements, spec_elements, field_elements}
use Rattle.pytoken.specs.FormattedStrings.{part_elements, inner_elements, spec_part_elements, body_part_elements, is_field_of}
use Rattle.pytoken.specs.Terminals.{Terminal, element_terminals}
use Rattle.pyparse_marks.specs.TokenSpans.{Walk, Around, put, further, moved, past_each, past_text, with_kept, is_conversion}
use Rattle.pyparse_marks.specs.TokenSpans.{past_conversion}
use Rattle.pyparse_marks.specs.TokenSpans.{source_len, past_front, past_spec, past_part, past_spec_parts, past_body_parts}
use Rattle.pyparse_marks.proofs.Fitting.{count, put_one, scalars_back, scalars_drop, none_front, none_back, flat_both}

scalars_tail : (c : ℕ) (cs : List ℕ) → all_scalars (c ∷ cs) ≡ true → all_scalars cs ≡ true
scalars_tail c cs e = (and_parts (scalar c) (all_scalars cs) e).1

-- what is left after the parts of a field

keeps_ok : {n : Bool} {cs here rest : List ℕ} {k : Option (List ℕ)} → Keeps n cs here k rest → all_scalars here ≡ true
    → all_scalars rest ≡ true
keeps_ok (unkept e) u = u
keeps_ok (kept {here = here} n e) u = scalars_drop (prefix_len is_blank_or_tabulation here) here (scalars_tail equals_sign here u)

converts_ok : {cs rest : List ℕ} {c : Conversion} → Converts cs c rest → all_scalars cs ≡ true → all_scalars rest ≡ true
converts_ok (unconverted e) u = u
converts_ok (by_str {rest = rest}) u = scalars_drop 2 (exclamation_mark ∷ small_s ∷ rest) u
converts_ok (by_repr {rest = rest}) u = scalars_drop 2 (exclamation_mark ∷ small_r ∷ rest) u
converts_ok (by_ascii {rest = rest}) u = scalars_drop 2 (exclamation_mark ∷ small_a ∷ rest) u

text_ok : {raw pairs : Bool} {cs t rest : List ℕ} → IsText raw pairs cs t rest → all_scalars cs ≡ true → all_scalars rest ≡ true
text_ok {t = t} {rest} i u = scalars_back t rest (ap all_scalars (sym i.whole) ∙ u)

module _ (expression : List ℕ → Walk → Walk) (terminals : List ℕ → List Terminal) (faulty : List ℕ → Bool)
    (fits : (t : List ℕ) → all_scalars t ≡ true → faulty t ≡ false → (w : Walk) → count (expression t w) ≡ count w + length (terminals t))
    (a : Around) where
  abbrev size : List Element → ℕ
  size es = length (flat_map (element_terminals terminals) es)

  abbrev fails : List Element → Bool
  fails es = list_any (is_field_of faulty) es

  -- going so gives these elements their spans, if their expressions are faultless
  abbrev pub Fits : (Walk → Walk) → List Element → Type 0
  Fits past es = fails es ≡ false → (w : Walk) → count (past w) ≡ count w + size es

  conversion_same : (w : Walk) → count (past_conversion a w) ≡ count w
  conversion_same w = by (is_conversion a w)
    where
      by : (b : Bool) → count (if b then further 2 w else w) ≡ count w
      by true = refl
      by false = refl

  kept_fits : (k : Option (List ℕ)) (w : Walk) → count (with_kept a k w) ≡ count w + size (kept_elements k)
  kept_fits None w = let none : size (kept_elements None) ≡ 0 = refl in omega (arith, none)
  kept_fits (Some t) w = put_one a.whole w

  front_fits : (k : Option (List ℕ)) (t : List ℕ) → all_scalars t ≡ true → faulty t ≡ false → (w : Walk)
      → count (past_front expression a k t w) ≡ count w + size (kept_elements k) + 1 + length (terminals t)
  front_fits k t u sound w =
      let begun = put a.whole (with_kept a k w) in
      let ended = expression t begun in
      let last : count (past_front expression a k t w) ≡ count ended = conversion_same (moved (w.at + 1 + source_len t k) ended) in
      let inside : count ended ≡ count begun + length (terminals t) = fits t u sound begun in
      let first : count begun ≡ count (with_kept a k w) + 1 = put_one a.whole (with_kept a k w) in
      omega (arith, kept_fits k w, first, inside, last)

  -- what is said of a part, and what stands after it
  record Said (past : Walk → Walk) (es : List Element) (rest : List ℕ) : Type 0 where
    pub rest_ok : all_scalars rest ≡ true
    pub fit : Fits past es

  -- ---- A field, by its spec.

  module _ {S : Type 0} (past : S → Walk → Walk) (elements : S → List Element) where
    abbrev SpecFits : Option S → Type 0
    SpecFits None = Unit {0}
    SpecFits (Some s) = Fits (past s) (elements s)

    spec_fits : (o : Option S) → SpecFits o → fails (spec_elements elements o) ≡ false → (w : Walk)
        → count (past_spec past a o w) ≡ count w + size (spec_elements elements o)
    spec_fits None fit none w = let nothing : size (spec_elements elements None) ≡ 0 = refl in omega (arith, nothing)
    spec_fits (Some s) fit none w =
        let begun = further 1 (put a.whole w) in
        let here : count (past s begun) ≡ count (put a.whole w) + size (elements s) = fit none begun in
        let all : size (spec_elements elements (Some s)) ≡ suc (size (elements s)) = refl in
        omega (arith, here, put_one a.whole w, all)

    field_fits : (f : FieldParts S) → all_scalars f.text ≡ true → SpecFits f.spec
        → Fits (past_part expression past a (field f)) (field_elements elements f)
    field_fits f u fit none w =
        let spec = spec_elements elements f.spec in
        let following = Field f.conversion f.text ∷ (spec ++ End ∷ []) in
        let inner = none_back (is_field_of faulty) (kept_elements f.kept) following none in
        let own = or_parts (faulty f.text) (fails (spec ++ End ∷ [])) inner in
        let front = past_front expression a f.kept f.text w in
        let last = past_spec past a f.spec front in
        let one : size (field_elements elements f) ≡ size (kept_elements f.kept) + size following =
        flat_both (element_terminals terminals) (kept_elements f.kept) following in
        let two : size following ≡ suc (length (terminals f.text) + size (spec ++ End ∷ [])) =
        ap suc (length-append (terminals f.text) (flat_map (element_terminals terminals) (spec ++ End ∷ []))) in
        let three : size (spec ++ End ∷ []) ≡ size spec + 1 = flat_both (element_terminals terminals) spec (End ∷ []) in
        let begin : count front ≡ count w + size (kept_elements f.kept) + 1 + length (terminals f.text) =
        front_fits f.kept f.text u own.0 w in
        let middle : count last ≡ count front + size spec =
        spec_fits f.spec fit (none_front (is_field_of faulty) spec (End ∷ []) own.1) front in
        let end : count (past_part expression past a (field f) w) ≡ count last + 1 = put_one a.whole last in
        omega (arith, one, two, three, begin, middle, end)

    specifies_ok : {Is : List ℕ → S → List ℕ → Type 0}
        → ((cs : List ℕ) (s : S) (rest : List ℕ) → Is cs s rest → all_scalars cs ≡ true → Said (past s) (elements s) rest)
        → {cs rest : List ℕ} {o : Option S} → Specifies Is cs o rest → all_scalars cs ≡ true → (all_scalars rest ≡ true) × SpecFits o
    specifies_ok said (unspecified e) u = (u, tt)
    specifies_ok said (specified {cs = cs} {rest} {s} h) u = let i = said cs s rest h (scalars_tail colon cs u) in (i.rest_ok, i.fit)

    field_said : {Is : List ℕ → S → List ℕ → Type 0}
        → ((cs : List ℕ) (s : S) (rest : List ℕ) → Is cs s rest → all_scalars cs ≡ true → Said (past s) (elements s) rest)
        → (n : Bool) (cs : List ℕ) (f : FieldParts S) (rest : List ℕ) → IsField Is n cs f rest → all_scalars cs ≡ true
        → Said (past_part expression past a (field f)) (field_elements elements f) rest
    field_said said n cs f rest i u =
        let whole = ap all_scalars (sym i.expression.whole) ∙ u in
        let following = scalars_back f.text i.after_expression whole in
        let spec = specifies_ok said i.specifies (converts_ok i.converts (keeps_ok i.keeps following)) in
        record {
          rest_ok = scalars_tail right_curly_bracket rest spec.0;
          fit = field_fits f (scalars_of f.text i.after_expression whole) spec.1;
        }

    cut_said : {raw pairs : Bool} {Is : List ℕ → FieldParts S → List ℕ → Type 0} (is_raw has_pairs : Bool)
        → ((cs : List ℕ) (f : FieldParts S) (rest : List ℕ) → Is cs f rest → all_scalars cs ≡ true
        → Said (past_part expression past a (field f)) (field_elements elements f) rest)
        → {cs : List ℕ} {parts : List (Part S)} {rest : List ℕ} → Cuts raw pairs Is cs parts rest → all_scalars cs ≡ true
        → Said (past_each (past_part expression past a) parts) (flat_map (part_elements is_raw has_pairs elements) parts) rest
    cut_said is_raw has_pairs said (last_text t e) u = record {
      rest_ok = text_ok t u;
      fit = λ none w. put_one a.whole w;
    }
    cut_said is_raw has_pairs said (and_field {t = t} {inside} {following} {f = f} {parts} is_text is_field rest) u =
        let here = said inside f following is_field (scalars_tail left_curly_bracket inside (text_ok is_text u)) in
        let more = cut_said is_raw has_pairs said rest here.rest_ok in
        let own = field_elements elements f in
        let later = flat_map (part_elements is_raw has_pairs elements) parts in
        record {
          rest_ok = more.rest_ok;
          fit = λ none w.
              let clean : fails (own ++ later) ≡ false = none in
              let begun = past_text a t w in
              let next = past_part expression past a (field f) begun in
              let all : size (flat_map (part_elements is_raw has_pairs elements) (text t ∷ field f ∷ parts)) ≡ suc (size (own ++ later)) =
              refl in
              let first : count begun ≡ count w + 1 = put_one a.whole w in
              let second : count next ≡ count begun + size own = here.fit (none_front (is_field_of faulty) own later clean) begun in
              let third : count (past_each (past_part expression past a) parts next) ≡ count next + size later =
              more.fit (none_back (is_field_of faulty) own later clean) next in
              let both : size (own ++ later) ≡ size own + size later = flat_both (element_terminals terminals) own later in
              omega (arith, first, second, third, both, all);
        }

  -- ---- Both depths.

  inner_said : (m : Manner) (raw : Bool) (cs s rest : List ℕ) → IsInnerSpec m cs s rest → all_scalars cs ≡ true
      → Said (past_text a s) (inner_elements raw s) rest
  inner_said m raw cs s rest i u = record { rest_ok = text_ok i u; fit = λ none w. put_one a.whole w }

  spec_said : (m : Manner) (raw : Bool) (cs : List ℕ) (s : List SpecPart) (rest : List ℕ) → IsSpec m cs s rest → all_scalars cs ≡ true
      → Said (past_spec_parts expression a s) (spec_part_elements raw s) rest
  spec_said m raw cs s rest c u =
      cut_said (past_text a) (inner_elements raw) raw false (field_said (past_text a) (inner_elements raw) (inner_said m raw) m.is_nested) c
      u

  pub body_fits : (m : Manner) (raw : Bool) (body : List ℕ) (ps : List BodyPart) → IsCut m body ps → all_scalars body ≡ true
      → Fits (past_body_parts expression a ps) (body_part_elements raw ps)
  body_fits m raw body ps c u =
      (cut_said (past_spec_parts expression a) (spec_part_elements raw) raw true
      (field_said (past_spec_parts expression a) (spec_part_elements raw) (spec_said m raw) m.is_nested) c u).fit
