-- Carries: place_of, good_part.
-- The row and the column by the bytes of a text are those by its characters.
use Rattle.std.proofs.Common.{◌≡◌, ℕ, zero, suc, ◌+◌, ◌≤◌, Bool, false, not, List, [], ◌∷◌, ◌++◌, length, sym, ap, subst, refl, inl, inr}
use Rattle.std.proofs.Common.{◌∙◌, arith, length-append}
use Rattle.std.specs.Prelude.{◌||◌, IsUtf8, count_by}
use Rattle.std.specs.List.{after_last, suffix_len}
use Rattle.std.specs.Str.{chars}
use Rattle.std.proofs.lemmas.Bool.{cases_Bool, both_ways}
use Rattle.std.proofs.lemmas.List.{take_at}
use Rattle.std.proofs.lemmas.List.Sums.{suffix_len_is}
use Rattle.std.proofs.lemmas.Str.{chars-append, encodes-chars, IsCharBoundary-at_seam, IsUtf8-take}
use Rattle.pysource.specs.Places.{is_lf, place_after}
use Rattle.pysource.specs.declared.places.Place.{Place}
use Rattle.pysource.proofs.FaultyLines.CutLemmas.{NoLf, NoLf-cons, cut, count_none, count_after, suffix_after, after_last_after}
use Rattle.pysource.proofs.FaultyLines.LinesLemmas.{line_text, rest_text}
use Rattle.pysource.proofs.Offsets.PlacesLemmas.{after_last_none}
use Rattle.pysource.proofs.Printing.PushReprLemmas.{has, some_character}

-- Bytes without line feed spell characters without one.
has_none : (xs : List ℕ) → NoLf xs → has 10 xs ≡ false
has_none [] h = refl
has_none (x ∷ xs) h =
    let here = h 0 (omega arith) in
    let more = has_none xs (λ k l. h (suc k) (omega arith)) in
    rw (here, more) refl

none_had : (xs : List ℕ) → has 10 xs ≡ false → NoLf xs
none_had [] h = λ k l. absurd (omega arith)
none_had (x ∷ xs) h = elim (cases_Bool (is_lf x)) [
  | inl e ↦ absurd (both_ways (has 10 (x ∷ xs)) h (ap (λ (b : Bool). b || has 10 xs) e))
  | inr e ↦ NoLf-cons x xs e (none_had xs (ap (λ (b : Bool). b || has 10 xs) (sym e) ∙ h))
]

no_lf_chars : (bs : List ℕ) → IsUtf8 bs → NoLf bs → NoLf (chars bs)
no_lf_chars bs u h = none_had (chars bs) (sym (some_character 10 (chars bs) (omega arith))
    ∙ ap (has 10) (encodes-chars bs u) ∙ has_none bs h)

-- the characters of a line and of what follows
line_chars : (front rest : List ℕ) → IsUtf8 ((front ++ 10 ∷ []) ++ rest)
    → IsUtf8 front × (chars ((front ++ 10 ∷ []) ++ rest) ≡ (chars front ++ 10 ∷ []) ++ chars rest)
unfolding chars lib.Utf8.encode
line_chars front rest u =
    let line = line_text front rest u in
    let lf : IsUtf8 (10 ∷ []) = (10 ∷ [], (refl, refl)) in
    let at = IsCharBoundary-at_seam (front ++ 10 ∷ []) front (10 ∷ []) refl lf in
    let first = subst IsUtf8 (take_at front (10 ∷ []) (length front) refl) (IsUtf8-take (front ++ 10 ∷ []) (length front) line at) in
    (first, chars-append (front ++ 10 ∷ []) rest line ∙ ap (λ (x : List ℕ). x ++ chars rest) (chars-append front (10 ∷ []) first))

-- the row and the column by bytes and by characters
abbrev Placed : List ℕ → Type 0
Placed t = (count_by is_lf t ≡ count_by is_lf (chars t)) × (length (chars (after_last is_lf t)) ≡ suffix_len (λ c. not (is_lf c)) (chars t))

-- one line
placed_last : (t : List ℕ) → IsUtf8 t → NoLf t → Placed t
placed_last t u clean =
    let spelled = no_lf_chars t u clean in
    let whole = suffix_len_is (λ c. not (is_lf c)) (chars t) 0 0 (omega arith) (λ k l h. ap not (spelled k h))
    (λ l. absurd (omega arith)) in (
      count_none t clean ∙ sym (count_none (chars t) spelled),
      ap (λ (x : List ℕ). length (chars x)) (after_last_none is_lf t clean)
          ∙ omega (arith, whole),
    )

-- after a line
placed_next : (front rest : List ℕ) → IsUtf8 ((front ++ 10 ∷ []) ++ rest) → NoLf front → Placed rest → Placed ((front ++ 10 ∷ []) ++ rest)
placed_next front rest u clean p =
    let parts = line_chars front rest u in
    let rows = count_after (chars front) (chars rest) (no_lf_chars front parts.0 clean) in
    let columns = suffix_after (chars front) (chars rest) in (
      count_after front rest clean ∙ ap (λ (n : ℕ). 1 + n) p.0 ∙ sym rows ∙ ap (count_by is_lf) (sym parts.1),
      ap (λ (x : List ℕ). length (chars x)) (after_last_after front rest) ∙ p.1 ∙ sym columns
          ∙ ap (suffix_len (λ c. not (is_lf c))) (sym parts.1),
    )

placed_within : (n : ℕ) (t : List ℕ) → length t ≤ n → IsUtf8 t → Placed t
placed_within n [] h u = placed_last [] u (λ k l. absurd (omega arith))
placed_within zero (b ∷ bs) h u = absurd (omega arith)
placed_within (suc n) (b ∷ bs) h u = elim (cut (b ∷ bs) (omega arith)) [
  | inl k ↦
      let size = ap length k.is in
      let more = length-append (k.front ++ 10 ∷ []) k.rest in
      let long = length-append k.front (10 ∷ []) in
      let text = subst IsUtf8 k.is u in
      let rest = placed_within n k.rest (omega (arith, size, more, long)) (rest_text k.front k.rest text) in
      subst Placed (sym k.is) (placed_next k.front k.rest text k.clean rest)
  | inr last ↦ placed_last (b ∷ bs) u last.clean
]

-- the place after a text, by its bytes
pub place_by_bytes : (t : List ℕ) → IsUtf8 t → place_after (chars t) ≡ record {
  row = 1 + count_by is_lf t;
  column =
      length (chars (after_last is_lf t));
}
unfolding place_after
place_by_bytes t u =
    let p = placed_within (length t) t (omega arith) u in
    ap (λ (n : ℕ). let q : Place = record { row = 1 + n; column = suffix_len (λ c. not (is_lf c)) (chars t) } in q) (sym p.0)
    ∙ ap (λ (n : ℕ). let q : Place = record { row = 1 + count_by is_lf t; column = n } in q) (sym p.1)
