-- How the elements of an f-string are laid: its texts and fields, of characters of its body, and the format specs of fields, one in
-- another.
--
-- Carries: front_scalars, back_scalars, Laid, all_laid, for the other files of StringTerminals, OfSources. On: no other file.
use Rattle.std.proofs.Common.{◌≡◌, ℕ, zero, suc, Bool, true, false, List, [], ◌∷◌, ◌++◌, Option, Some, None, refl, sym, ◌∙◌, subst, leb}
use Rattle.std.proofs.Common.{append_assoc}
use Rattle.std.specs.Prelude.{option_map}
use Rattle.std.specs.List.{list_all, flat_map}
use Rattle.std.specs.Str.{all_scalars}
use Rattle.std.proofs.Math.Utf8.{scalar}
use Rattle.std.proofs.lemmas.Bool.{and_parts}
use Rattle.std.proofs.lemmas.List.Folds.{list_all-append}
use Rattle.pyfstring.specs.declared.parts.Conversion.{Conversion}
use Rattle.pyfstring.specs.declared.parts.Manner.{Manner}
use Rattle.pyfstring.specs.Characters.{colon, right_curly_bracket, left_curly_bracket}
use Rattle.pyfstring.specs.Cutting.{cut_of}
use Rattle.pyfstring.specs.Expressions.{following_expression}
use Rattle.pyfstring.specs.Parts.{FieldParts, Part, BodyPart}
use Rattle.pyfstring.specs.Texts.{after_text}
use Rattle.pyfstring.specs.Pieces.{IsField, Keeps, Converts, Specifies, Cuts, IsInnerSpec, IsSpec, IsCut, after_blanks}
use Rattle.pyfstring.proofs.Callers.Law.{cut_of_sound}
use Rattle.pytoken.specs.StringValues.{with_line_feeds, is_raw, body_of}
use Rattle.pytoken.specs.FormattedStrings.{Element, Field, Spec, End, text_element, kept_elements, spec_elements, field_elements}
use Rattle.pytoken.specs.FormattedStrings.{part_elements}
use Rattle.pytoken.specs.FormattedStrings.{inner_elements, spec_part_elements, body_part_elements, elements_of}

pub back_scalars : (a b : List ℕ) → all_scalars (a ++ b) ≡ true → all_scalars b ≡ true
back_scalars [] b h = h
back_scalars (c ∷ a) b h = back_scalars a b (and_parts (scalar c) (all_scalars (a ++ b)) h).1

-- ---- Elements, by how many fields they stand in: those of a format spec stand in one more.

-- they stand in no format spec
abbrev pub at_top : ℕ → Bool
at_top zero = true
at_top (suc k) = false

-- Of characters that pass a test. A text is a longest one, but for the source that `=` keeps; a field ends where its expression does.
pub data Laid (p : ℕ → Bool) (is_nested : Bool) : ℕ → List Element → Type 0 where
  nothing : {k : ℕ} → Laid p is_nested k []
  a_text : {k : ℕ} {raw : Bool} {t rest : List ℕ} {es : List Element} → list_all p t ≡ true → after_text raw (at_top k) (t ++ rest) ≡ rest
      → Laid p is_nested k es
      → Laid p is_nested k (text_element raw (at_top k) t ∷ es)
  kept_text : {k : ℕ} {t : List ℕ} {es : List Element} → is_nested ≡ false → list_all p t ≡ true → Laid p is_nested k es
      → Laid p is_nested k (text_element true false t ∷ es)
  a_spec : {k : ℕ} {es : List Element} → Laid p is_nested k es → Laid p is_nested k (Spec ∷ es)
  a_field : {k : ℕ} {c : Conversion} {t rest : List ℕ} {ss es : List Element} → leb k 1 ≡ true → list_all p t ≡ true
      → following_expression (t ++ rest) ≡ Some rest
      → Laid p is_nested (suc k) ss → Laid p is_nested k es → Laid p is_nested k (Field c t ∷ (ss ++ (End ∷ es)))

both : {p : ℕ → Bool} {is_nested : Bool} {k : ℕ} {es fs : List Element} → Laid p is_nested k es → Laid p is_nested k fs
    → Laid p is_nested k (es ++ fs)
both nothing g = g
both (a_text h w l) g = a_text h w (both l g)
both (kept_text n h l) g = kept_text n h (both l g)
both (a_spec l) g = a_spec (both l g)
both {p} {is_nested} {k} {fs = fs} (a_field {c = c} {t = t} {ss = ss} {es = es} b h w s l) g =
    subst (λ z. Laid p is_nested k (Field c t ∷ z)) (sym (append_assoc ss (End ∷ es) fs)) (a_field b h w s (both l g))

module _ (p : ℕ → Bool) (is_nested : Bool) where
  abbrev AllIn : List ℕ → Type 0
  AllIn t = list_all p t ≡ true

  parts : (xs ys : List ℕ) → AllIn (xs ++ ys) → AllIn xs × AllIn ys
  parts xs ys h = and_parts (list_all p xs) (list_all p ys) (sym (list_all-append p xs ys) ∙ h)

  following_one : (c : ℕ) (cs : List ℕ) → AllIn (c ∷ cs) → AllIn cs
  following_one c cs h = (and_parts (p c) (list_all p cs) h).1

  -- elements, and what is after them
  record Left (k : ℕ) (es : List Element) (rest : List ℕ) : Type 0 where
    laid : Laid p is_nested k es
    following : AllIn rest

  keeps_left : (k : ℕ) {cs here rest : List ℕ} {o : Option (List ℕ)} → Keeps is_nested cs here o rest → AllIn cs → AllIn here
      → Left k (kept_elements o) rest
  keeps_left k (Keeps.unkept n) h g = record { laid = nothing; following = g }
  keeps_left k (Keeps.kept {here = here} {k = t} n w) h g =
      let u = parts t (after_blanks here) (subst AllIn w h) in
      record { laid = kept_text n u.0 nothing; following = u.1 }

  converts_left : {here rest : List ℕ} {c : Conversion} → Converts here c rest → AllIn here → AllIn rest
  converts_left (Converts.unconverted n) h = h
  converts_left (Converts.by_str {rest = rest}) h = following_one _ rest (following_one _ (_ ∷ rest) h)
  converts_left (Converts.by_repr {rest = rest}) h = following_one _ rest (following_one _ (_ ∷ rest) h)
  converts_left (Converts.by_ascii {rest = rest}) h = following_one _ rest (following_one _ (_ ∷ rest) h)

  -- what is read by a relation, as elements in so many fields
  abbrev Reads : {S : Type 0} → ℕ → (List ℕ → S → List ℕ → Type 0) → (S → List Element) → Type 0
  Reads {S} k Is elements = (cs rest : List ℕ) (s : S) → Is cs s rest → AllIn cs → Left k (elements s) rest

  module _ {S : Type 0} (k : ℕ) (IsSpecOf : List ℕ → S → List ℕ → Type 0) (elements : S → List Element) (low : leb k 1 ≡ true)
      (reads : Reads (suc k) IsSpecOf elements) where
    specifies_left : {here rest : List ℕ} {s : Option S} → Specifies IsSpecOf here s rest → AllIn here
        → Left (suc k) (spec_elements elements s) rest
    specifies_left (Specifies.unspecified n) h = record { laid = nothing; following = h }
    specifies_left (Specifies.specified {cs = cs} {rest = rest} {s = s} i) h =
        let l = reads cs rest s i (following_one colon cs h) in
        record { laid = a_spec l.laid; following = l.following }

    field_left : Reads k (IsField IsSpecOf is_nested) (field_elements elements)
    field_left cs rest f i h =
        let w = parts f.text i.after_expression (subst AllIn i.expression.whole h) in
        let e : following_expression (f.text ++ i.after_expression) ≡ Some i.after_expression =
        subst (λ z. following_expression z ≡ Some i.after_expression) i.expression.whole i.expression.scanned in
        let l : Left k (kept_elements f.kept) i.after_kept = keeps_left k i.keeps h w.1 in
        let s : Left (suc k) (spec_elements elements f.spec) (right_curly_bracket ∷ rest) =
        specifies_left i.specifies (converts_left i.converts l.following) in
        record { laid = both l.laid (a_field low w.0 e s.laid nothing); following = following_one right_curly_bracket rest s.following }

  module _ {S : Type 0} (k : ℕ) (Is : List ℕ → FieldParts S → List ℕ → Type 0) (elements : S → List Element)
      (reads : Reads k Is (field_elements elements)) where
    cuts_left : (raw : Bool) {cs rest : List ℕ} {ps : List (Part S)} → Cuts raw (at_top k) Is cs ps rest → AllIn cs
        → Left k (flat_map (part_elements raw (at_top k) elements) ps) rest
    cuts_left raw {rest = rest} (Cuts.last_text {t = t} w n) h =
        let u = parts t rest (subst AllIn w.whole h) in
        record { laid = a_text u.0 (subst (λ z. after_text raw (at_top k) z ≡ rest) w.whole w.longest) nothing; following = u.1 }
    cuts_left raw (Cuts.and_field {t = t} {inside = inside} {following = following} {f = f} w i c) h =
        let u = parts t (left_curly_bracket ∷ inside) (subst AllIn w.whole h) in
        let l = reads inside following f i (following_one left_curly_bracket inside u.1) in
        let m = cuts_left raw c l.following in
        record {
          laid = a_text u.0 (subst (λ z. after_text raw (at_top k) z ≡ left_curly_bracket ∷ inside) w.whole
              w.longest) (both l.laid m.laid);
          following = m.following;
        }

  inner_left : (m : Manner) → Reads 2 (IsInnerSpec m) (inner_elements m.is_raw)
  inner_left m cs rest t w h =
      let u = parts t rest (subst AllIn w.whole h) in
      record {
        laid = a_text {k = 2} {raw = m.is_raw} {t = t} {rest = rest} u.0 (subst (λ z. after_text m.is_raw false z ≡ rest)
            w.whole w.longest) nothing;
        following = u.1;
      }

  spec_left : (raw : Bool) → Reads 1 (IsSpec (record { is_raw = raw; is_nested = is_nested })) (spec_part_elements raw)
  spec_left raw cs rest ps i h =
      let m : Manner = record { is_raw = raw; is_nested = is_nested } in
      cuts_left 1 (IsField (IsInnerSpec m) is_nested) (inner_elements raw)
      (field_left 1 (IsInnerSpec m) (inner_elements raw) refl (inner_left m)) raw i h

  body_laid : (raw : Bool) (body : List ℕ) (ps : List BodyPart)
      → IsCut (record { is_raw = raw; is_nested = is_nested }) body ps → AllIn body
      → Laid p is_nested 0 (body_part_elements raw ps)
  body_laid raw body ps i h =
      let m : Manner = record { is_raw = raw; is_nested = is_nested } in
      let reads = field_left 0 (IsSpec m) (spec_part_elements raw) refl (spec_left raw) in
      (cuts_left 0 (IsField (IsSpec m) is_nested) (spec_part_elements raw) reads raw i h).laid

-- an f-string's, if it has elements
abbrev pub LaidIf : (ℕ → Bool) → Bool → Option (List Element) → Type 0
LaidIf p is_nested None = Unit {0}
LaidIf p is_nested (Some es) = Laid p is_nested 0 es

pub all_laid : (p : ℕ → Bool) (is_nested : Bool) (t : List ℕ) → list_all p (body_of t) ≡ true → LaidIf p is_nested (elements_of is_nested t)
unfolding elements_of
all_laid p is_nested t h = by (cut_of m (body_of t)) refl
  where
    m : Manner
    m = record { is_raw = is_raw (with_line_feeds t); is_nested = is_nested }

    by : (o : Option (List BodyPart)) → cut_of m (body_of t) ≡ o → LaidIf p is_nested (option_map (body_part_elements m.is_raw) o)
    by None e = tt
    by (Some ps) e = body_laid p is_nested m.is_raw (body_of t) ps (cut_of_sound m (body_of t) ps e) h
