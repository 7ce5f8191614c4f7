-- Going over the parts of an f-string that has a cut: one stands where they stand in it.
--
-- Carries: body_fine, for TokenWalks. On: Walks.
use Rattle.std.proofs.Common.{◌≡◌, refl, sym, ap, ◌∙◌, subst, ℕ, zero, suc, ◌+◌, ◌-◌, ◌<◌, ◌≤◌, arith, Bool, true, false, List, [], ◌∷◌}
use Rattle.std.proofs.Common.{◌++◌, append_assoc, drop, length, Option, Some, None, slice_index_or}
use Rattle.std.specs.Prelude.{◌==◌}
use Rattle.std.specs.List.{prefix_len}
use Rattle.std.specs.Str.{encode_utf8_all}
use Rattle.std.proofs.lemmas.Str.{encodes-append}
use Rattle.pylex_lexeme.specs.Chars.{bytes_in}
use Rattle.pyfstring.specs.Characters.{exclamation_mark, colon, equals_sign, small_a, small_r, small_s, left_curly_bracket}
use Rattle.pyfstring.specs.Characters.{right_curly_bracket}
use Rattle.pyfstring.specs.declared.parts.Conversion.{Conversion}
use Rattle.pyfstring.specs.declared.parts.Manner.{Manner}
use Rattle.pyfstring.specs.Parts.{FieldParts, Part, field, BodyPart}
use Rattle.pyfstring.specs.Pieces.{IsText, Keeps, unkept, kept, Converts, unconverted, by_str, by_repr, by_ascii, Specifies, unspecified}
use Rattle.pyfstring.specs.Pieces.{specified, IsField, Cuts, last_text, and_field, IsInnerSpec, IsSpec, IsCut, is_blank_or_tabulation}
use Rattle.pyfstring.specs.Pieces.{after_blanks}
use Rattle.pyparse_marks.specs.Spans.{Span, span}
use Rattle.pyparse_marks.specs.TokenSpans.{Walk, Around, put, further, moved, past_each, past_text, with_kept, is_conversion}
use Rattle.pyparse_marks.specs.TokenSpans.{past_conversion, source_len, past_spec, past_part, past_spec_parts, past_body_parts}
use Rattle.pyplaces.proofs.Order.Entries.{bytes_both}
use Rattle.pyplaces.proofs.Order.Walks.{Fine, fine_put, fine_on}

-- ---- Bytes.

bytes_drop : (n : ℕ) (cs : List ℕ) → bytes_in (drop n cs) ≤ bytes_in cs
bytes_drop zero cs = omega arith
bytes_drop (suc n) [] = omega arith
bytes_drop (suc n) (c ∷ cs) = omega (arith, bytes_drop n cs, bytes_both (c ∷ []) cs)

byte_following : (xs ys : List ℕ) → slice_index_or (xs ++ ys) (length xs) 0 ≡ slice_index_or ys 0 0
byte_following [] ys = refl
byte_following (x ∷ xs) ys = byte_following xs ys

-- some characters that end in one of the last text
module _ (lo hi : ℕ) (first : Span) (t tail : List ℕ) (begin : ℕ) (low : lo ≤ begin) (high : begin + bytes_in t ≤ hi) where
  abbrev whole : Span
  whole = span begin (begin + bytes_in t)

  abbrev a : Around
  a = record { bytes = encode_utf8_all t; start = begin; whole = whole }

  -- so much is left of the text in front of its tail
  pub record At (cs : List ℕ) (n : ℕ) : Type 0 where
    pub before : List ℕ
    pub is : t ≡ before ++ (cs ++ tail)
    pub here : n ≡ begin + bytes_in before

  -- one stands in front of these, and all spans so far are fine
  pub record Stands (cs : List ℕ) (w : Walk) : Type 0 where
    pub fine : Fine lo hi first w
    pub at : At cs w.at

  left : {cs : List ℕ} {n : ℕ} → At cs n → n + bytes_in cs + bytes_in tail ≡ begin + bytes_in t
  left {cs} p = let e : bytes_in t ≡ bytes_in (p.before ++ (cs ++ tail)) = ap bytes_in p.is in
      omega (arith, p.here, e, bytes_both p.before (cs ++ tail), bytes_both cs tail)

  at_on : (cs x rest : List ℕ) (n : ℕ) → At cs n → cs ≡ x ++ rest → At rest (n + bytes_in x)
  at_on cs x rest n p e = record {
    before = p.before ++ x;
    is = p.is ∙ ap (λ z. p.before ++ (z ++ tail)) e ∙ ap (λ z. p.before ++ z) (append_assoc x rest tail)
        ∙ sym (append_assoc p.before x (rest ++ tail));
    here = omega (arith, p.here, bytes_both p.before x);
  }

  -- one moves to where these are left
  go : (cs rest : List ℕ) (n : ℕ) (w : Walk) → Stands cs w → w.at ≤ n → At rest n → Stands rest (moved n w)
  go cs rest n w s h p = record { fine = fine_on lo hi first n w s.fine h (omega (arith, left p, high)); at = p }

  put_whole : (cs : List ℕ) (w : Walk) → Stands cs w → Stands cs (put whole w)
  put_whole cs w s = record {
    fine = fine_put lo hi first whole w s.fine low (let p = s.at in omega (arith, p.here)) (let p = s.at in omega (arith, left p)) high;
    at = s.at;
  }

  -- past so much
  past : (cs x rest : List ℕ) (w : Walk) → Stands cs w → cs ≡ x ++ rest → Stands rest (further (bytes_in x) w)
  past cs x rest w s e = go cs rest (w.at + bytes_in x) w s (omega arith) (at_on cs x rest w.at s.at e)

  text_stands : {raw pairs : Bool} {cs x rest : List ℕ} (w : Walk) → IsText raw pairs cs x rest → Stands cs w
      → Stands rest (past_text a x w)
  text_stands {cs = cs} {x = x} {rest = rest} w i s = past cs x rest (put whole w) (put_whole cs w s) i.whole

  -- ---- A field up to its conversion.

  module _ (expression : List ℕ → Walk → Walk)
      (fine : (x : List ℕ) (n : ℕ) (w : Walk) → Fine lo hi first w → w.at + (1 + bytes_in x) ≤ n → n < hi
      → Fine lo hi first (moved n (expression x w))) where
    with_kept_stands : (cs : List ℕ) (k : Option (List ℕ)) (w : Walk) → Stands cs w → Stands cs (with_kept a k w)
    with_kept_stands cs None w s = s
    with_kept_stands cs (Some k) w s = put_whole cs w s

    kept_at : (k : Option (List ℕ)) (w : Walk) → (with_kept a k w).at ≡ w.at
    kept_at None w = refl
    kept_at (Some k) w = refl

    -- something is left after it
    some_kept : {S : Type 0} {Is : List ℕ → S → List ℕ → Type 0} {cs following rest : List ℕ} {c : Conversion} {o : Option S}
        → Converts cs c following → Specifies Is following o (right_curly_bracket ∷ rest) → 0 < bytes_in cs
    unfolding lib.Utf8.encode
    some_kept (by_str {rest = r}) p = omega (arith, bytes_both (exclamation_mark ∷ []) (small_s ∷ r))
    some_kept (by_repr {rest = r}) p = omega (arith, bytes_both (exclamation_mark ∷ []) (small_r ∷ r))
    some_kept (by_ascii {rest = r}) p = omega (arith, bytes_both (exclamation_mark ∷ []) (small_a ∷ r))
    some_kept {rest = rest} (unconverted e) (unspecified f) = omega (arith, bytes_both (right_curly_bracket ∷ []) rest)
    some_kept (unconverted e) (specified {cs = cs} f) = omega (arith, bytes_both (colon ∷ []) cs)

    -- where the expression and what is kept of the field end
    keeps_at : {n : Bool} {cs here following : List ℕ} {k : Option (List ℕ)} (x : List ℕ) (m : ℕ) → At (left_curly_bracket ∷ cs) m
        → cs ≡ x ++ here → Keeps n cs here k following
        → At following (m + 1 + source_len x k) × (m + (1 + bytes_in x) ≤ m + 1 + source_len x k)
    unfolding lib.Utf8.encode
    keeps_at {cs = cs} {here = here} x m p e (unkept f) =
        let q = at_on (left_curly_bracket ∷ cs) (left_curly_bracket ∷ []) cs m p refl in
        (at_on cs x here (m + 1) q e, omega arith)
    keeps_at {cs = cs} x m p e (kept {here = here} {k = k} f g) =
        let q = at_on (left_curly_bracket ∷ cs) (left_curly_bracket ∷ []) cs m p refl in
        let one : bytes_in cs ≡ bytes_in x + bytes_in (equals_sign ∷ here) = ap bytes_in e ∙ bytes_both x (equals_sign ∷ here) in
        let two : bytes_in cs ≡ bytes_in k + bytes_in (after_blanks here) = ap bytes_in g ∙ bytes_both k (after_blanks here) in
        let less = bytes_drop (prefix_len is_blank_or_tabulation here) here in
        let first = bytes_both (equals_sign ∷ []) here in
        (at_on cs k (after_blanks here) (m + 1) q g, omega (arith, one, two, less, first))

    front_stands : {S : Type 0} {Is : List ℕ → S → List ℕ → Type 0} {n : Bool} {cs here following after rest : List ℕ}
        {k : Option (List ℕ)} {c : Conversion} {o : Option S} (x : List ℕ) (w : Walk) → Stands (left_curly_bracket ∷ cs) w
        → cs ≡ x ++ here → Keeps n cs here k following → Converts following c after
        → Specifies Is after o (right_curly_bracket ∷ rest)
        → Stands following (moved (w.at + 1 + source_len x k) (expression x (put a.whole (with_kept a k w))))
    front_stands {cs = cs} {following = following} {k = k} x w s e keeps converts specifies =
        let begun = put whole (with_kept a k w) in
        let inner = put_whole (left_curly_bracket ∷ cs) (with_kept a k w) (with_kept_stands (left_curly_bracket ∷ cs) k w s) in
        let p = keeps_at x w.at s.at e keeps in
        let here : begun.at ≡ w.at = kept_at k w in
        record {
          fine = fine x (w.at + 1 + source_len x k) begun inner.fine (omega (arith, here, p.1))
              (omega (arith, left p.0, high, some_kept converts specifies));
          at = p.0;
        }

    -- ---- A conversion: "!" stands here or not.

    byte_here : (cs : List ℕ) (w : Walk) → At cs w.at → slice_index_or a.bytes (w.at - a.start) 0 ≡ slice_index_or
        (encode_utf8_all (cs ++ tail)) 0 0
    byte_here cs w p =
        let size : w.at - begin ≡ length (encode_utf8_all p.before) = omega (arith, p.here) in
        ap (λ z. slice_index_or (encode_utf8_all t) z 0) size
        ∙ ap (λ z. slice_index_or z (length (encode_utf8_all p.before)) 0)
        (ap encode_utf8_all p.is ∙ encodes-append p.before (cs ++ tail))
        ∙ byte_following (encode_utf8_all p.before) (encode_utf8_all (cs ++ tail))

    mark_stands : (cs : List ℕ) (b : Bool) (w : Walk) → Stands (exclamation_mark ∷ cs) w → (c : ℕ) (rest : List ℕ)
        → exclamation_mark ∷ cs ≡ exclamation_mark ∷ c ∷ rest → bytes_in (c ∷ []) ≡ 1 → Stands rest (past_conversion a w)
    unfolding lib.Utf8.encode
    mark_stands cs b w s c rest e one =
        let is : is_conversion a w ≡ true = ap (λ z. z == exclamation_mark) (byte_here (exclamation_mark ∷ cs) w s.at) in
        let size : 2 ≡ bytes_in (exclamation_mark ∷ c ∷ []) = omega (arith, one, bytes_both (exclamation_mark ∷ []) (c ∷ [])) in
        let goal : Stands rest (further 2 w) =
        subst (λ n. Stands rest (further n w)) (sym size) (past (exclamation_mark ∷ cs) (exclamation_mark ∷ c ∷ []) rest w s e) in
        rw is goal

    other_stands : (cs : List ℕ) (w : Walk) → Stands cs w → is_conversion a w ≡ false → Stands cs (past_conversion a w)
    other_stands cs w s is = rw is s

    converts_stands : {S : Type 0} {Is : List ℕ → S → List ℕ → Type 0} {cs after rest : List ℕ} {c : Conversion} {o : Option S}
        (w : Walk) → Stands cs w → Converts cs c after → Specifies Is after o (right_curly_bracket ∷ rest)
        → Stands after (past_conversion a w)
    unfolding lib.Utf8.encode
    converts_stands w s (by_str {rest = rest}) p = mark_stands (small_s ∷ rest) true w s small_s rest refl refl
    converts_stands w s (by_repr {rest = rest}) p = mark_stands (small_r ∷ rest) true w s small_r rest refl refl
    converts_stands w s (by_ascii {rest = rest}) p = mark_stands (small_a ∷ rest) true w s small_a rest refl refl
    converts_stands {rest = rest} w s (unconverted e) (unspecified f) =
        other_stands (right_curly_bracket ∷ rest) w s
        (ap (λ z. z == exclamation_mark) (byte_here (right_curly_bracket ∷ rest) w s.at))
    converts_stands w s (unconverted e) (specified {cs = cs} f) =
        other_stands (colon ∷ cs) w s (ap (λ z. z == exclamation_mark) (byte_here (colon ∷ cs) w s.at))

    -- ---- Fields and texts.

    -- past a spec, whatever it is
    abbrev SpecStands : {S : Type 0} → (List ℕ → S → List ℕ → Type 0) → (S → Walk → Walk) → Type 0
    SpecStands {S} Is spec = (cs : List ℕ) (x : S) (rest : List ℕ) → Is cs x rest → (w : Walk) → Stands cs w
        → Stands rest (spec x w)

    spec_stands : {S : Type 0} (Is : List ℕ → S → List ℕ → Type 0) (spec : S → Walk → Walk) → SpecStands Is spec
        → {cs rest : List ℕ} {o : Option S} (w : Walk) → Stands cs w → Specifies Is cs o rest → Stands rest (past_spec spec a o w)
    unfolding lib.Utf8.encode
    spec_stands Is spec goes w s (unspecified f) = s
    spec_stands Is spec goes w s (specified {cs = cs} {rest = rest} {s = x} f) =
        goes cs x rest f (further 1 (put whole w)) (past (colon ∷ cs) (colon ∷ []) cs (put whole w) (put_whole (colon ∷ cs) w s) refl)

    field_stands : {S : Type 0} (Is : List ℕ → S → List ℕ → Type 0) (spec : S → Walk → Walk) → SpecStands Is spec
        → (n : Bool) (cs : List ℕ) (f : FieldParts S) (rest : List ℕ) → IsField Is n cs f rest → (w : Walk)
        → Stands (left_curly_bracket ∷ cs) w → Stands rest (past_part expression spec a (field f) w)
    unfolding lib.Utf8.encode
    field_stands Is spec goes n cs f rest i w s =
        let front = front_stands f.text w s i.expression.whole i.keeps i.converts i.specifies in
        let there = moved (w.at + 1 + source_len f.text f.kept) (expression f.text (put a.whole (with_kept a f.kept w))) in
        let following = converts_stands there front i.converts i.specifies in
        let last = spec_stands Is spec goes (past_conversion a there) following i.specifies in
        let ended = past_spec spec a f.spec (past_conversion a there) in
        past (right_curly_bracket ∷ rest) (right_curly_bracket ∷ []) rest (put whole ended)
        (put_whole (right_curly_bracket ∷ rest) ended last) refl

    cuts_stand : {S : Type 0} {raw pairs : Bool} (Is : List ℕ → S → List ℕ → Type 0) (spec : S → Walk → Walk) → SpecStands Is spec
        → (n : Bool) {cs rest : List ℕ} {parts : List (Part S)} → Cuts raw pairs (IsField Is n) cs parts rest → (w : Walk)
        → Stands cs w → Stands rest (past_each (past_part expression spec a) parts w)
    cuts_stand Is spec goes n (last_text i e) w s = text_stands w i s
    cuts_stand Is spec goes n (and_field {t = x} {inside = inside} {following = following} {f = f} i g c) w s =
        let begun = past_text a x w in
        cuts_stand Is spec goes n c (past_part expression spec a (field f) begun)
        (field_stands Is spec goes n inside f following g begun (text_stands w i s))

    -- ---- Both depths.

    pub body_stands : (m : Manner) (body : List ℕ) (ps : List BodyPart) → IsCut m body ps → (w : Walk) → Stands body w
        → Stands [] (past_body_parts expression a ps w)
    body_stands m body ps c w s =
        cuts_stand (IsSpec m) (past_spec_parts expression a)
        (λ cs x rest i v r. cuts_stand (IsInnerSpec m) (past_text a) (λ cs x rest j u q. text_stands u j q) m.is_nested i v r)
        m.is_nested c w s
