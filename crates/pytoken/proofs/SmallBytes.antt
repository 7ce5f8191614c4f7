-- Carries: bytes_are_small. On: the points of faultless bytes.
use Rattle.std.proofs.Common.{◌≡◌, ℕ, zero, suc, Bool, true, false, List, [], ◌∷◌, length, take, get_or, refl, sym, ap, subst, ◌∙◌, inl}
use Rattle.std.proofs.Common.{inr, arith}
use Rattle.std.proofs.Common.{Option, Some, None}
use Rattle.std.specs.Prelude.{◌==◌, ◌&&◌, not, nat_lt, nat_le, option_map, if◌then◌else◌}
use Rattle.std.specs.Char.{digit_value, is_digit}
use Rattle.std.specs.List.{list_any, list_all, find, flat_map}
use Rattle.std.specs.Str.Parse.{digits_value}
use Rattle.std.proofs.lemmas.Bool.{cases_Bool, and_from, and_parts, or_parts, ltb-true, ltb-false, lt-ltb, eqb-true, not-true}
use Rattle.std.proofs.lemmas.List.Folds.{list_all-append}
use Rattle.std.proofs.lemmas.List.Recursion.{and_at}
use Rattle.std.proofs.lemmas.List.Sums.{take_while-cons}
use Rattle.pytree_node.specs.Values.{Str, Bytes}
use Rattle.pytoken.specs.declared.faults.TokenError.{TokenError}
use Rattle.pytoken.specs.declared.faults.TokenError.TheVariants as errors
use Rattle.pytoken.specs.declared.meanings.Meaning.{Meaning}
use Rattle.pytoken.specs.declared.meanings.Meaning.TheVariants.{Point, Wrong}
use Rattle.pytoken.specs.Escapes.{Reading, Escape, escapes, escape_point, digits_at_front, octal, hexadecimal, escaped_by, reading}
use Rattle.pytoken.specs.Escapes.{meanings_after}
use Rattle.pytoken.specs.Escapes.{meanings, points_in, is_named_escape, is_bad_escape, escape_fault}
use Rattle.pytoken.specs.StringValues.{with_line_feeds, is_raw, is_bytes, is_formatted, is_unicode, body_of, points_of, value_of}
use Rattle.pytoken.specs.StringValues.{string_value}
use Rattle.pytoken.specs.StringValues.{nul_fault, literal_fault, string_fault}
use Rattle.pytoken.proofs.Callers.Bodies.{body_all}
use Rattle.pytoken.specs.Laws.{is_byte, BytesAreSmall}
use Rattle.std.specs.Option.{option_or}

abbrev is_low : ℕ → Bool
is_low c = not (nat_lt 0x7F c)

low_small : (c : ℕ) → is_low c ≡ true → is_byte c ≡ true
low_small c low = let most = ltb-false 0x7F c (not-true (nat_lt 0x7F c) low) in lt-ltb c 0x100 (omega (arith, most))

-- a reading whose points are small, unless it is of a bad escape
abbrev IsSmall : Meaning → Type 0
IsSmall m = is_bad_escape m ≡ false → list_all is_byte (points_in m) ≡ true

point_small : (c : ℕ) → is_byte c ≡ true → IsSmall (Point c)
point_small c small good = and_from (is_byte c) true small refl

octal_small : (ds : List ℕ) → IsSmall (octal true ds).meaning
octal_small ds = by (nat_lt 0xFF (digits_value 8 ds)) refl
  where
    by : (b : Bool) → nat_lt 0xFF (digits_value 8 ds) ≡ b → IsSmall (if b then Wrong errors.BadEscape else Point (digits_value 8 ds))
    by true past good = cc
    by false within good = let most = ltb-false 0xFF (digits_value 8 ds) within in
        and_from (is_byte (digits_value 8 ds)) true (lt-ltb (digits_value 8 ds) 0x100 (omega (arith, most))) refl

-- two hexadecimal digits

one_front : (n c : ℕ) (cs : List ℕ) → is_digit c 16 ≡ true → digits_at_front 16 (suc n) (c ∷ cs) ≡ c ∷ digits_at_front 16 n cs
one_front n c cs digit = take_while-cons (λ x. is_digit x 16) c (take n cs) ∙ (rw digit refl)

no_front : (n c : ℕ) (cs : List ℕ) → is_digit c 16 ≡ false → digits_at_front 16 (suc n) (c ∷ cs) ≡ []
no_front n c cs other = take_while-cons (λ x. is_digit x 16) c (take n cs) ∙ (rw other refl)

two_value : (a b : ℕ) → is_digit a 16 ≡ true → is_digit b 16 ≡ true → is_byte (digits_value 16 (a ∷ b ∷ [])) ≡ true
two_value a b first second =
    let high = ltb-true (digit_value a) 16 first in
    let low = ltb-true (digit_value b) 16 second in
    lt-ltb (digits_value 16 (a ∷ b ∷ [])) 0x100 (omega (arith, high, low))

two_small : (cs : List ℕ) → length (digits_at_front 16 2 cs) ≡ 2 → is_byte (digits_value 16 (digits_at_front 16 2 cs)) ≡ true
two_small [] two = cc
two_small (a ∷ cs) two = elim (cases_Bool (is_digit a 16)) [
  | inl first ↦ second a cs first two
  | inr other ↦ absurd (omega (arith, ap length (no_front 1 a cs other), two))
]
  where
    second : (a : ℕ) (cs : List ℕ) → is_digit a 16 ≡ true → length (digits_at_front 16 2 (a ∷ cs)) ≡ 2 →
        is_byte (digits_value 16 (digits_at_front 16 2 (a ∷ cs))) ≡ true
    second a [] first two = absurd (omega (arith, ap length (one_front 1 a [] first), two))
    second a (b ∷ cs) first two = elim (cases_Bool (is_digit b 16)) [
      | inl last ↦ ap (λ (ds : List ℕ). is_byte (digits_value 16 ds))
          (one_front 1 a (b ∷ cs) first ∙ ap (λ (ds : List ℕ). a ∷ ds) (one_front 0 b cs last)) ∙ two_value a b first last
      | inr other ↦ absurd (omega (arith, ap length (one_front 1 a (b ∷ cs) first), ap length (no_front 0 b cs other), two))
    ]

hexadecimal_small : (cs : List ℕ) → IsSmall (hexadecimal 2 (digits_at_front 16 2 cs)).meaning
hexadecimal_small cs = by (length (digits_at_front 16 2 cs) == 2) (nat_le (digits_value 16 (digits_at_front 16 2 cs)) 0x10_FFFF) refl
  where
    by : (b d : Bool) → (length (digits_at_front 16 2 cs) == 2) ≡ b →
        IsSmall (if b && d then Point (digits_value 16 (digits_at_front 16 2 cs)) else Wrong errors.BadEscape)
    by true true two good =
        let ds = digits_at_front 16 2 cs in
        and_from (is_byte (digits_value 16 ds)) true (two_small cs (eqb-true (length ds) 2 two)) refl
    by true false two good = cc
    by false d two good = cc

-- escapes of one character

point_in : (c p : ℕ) (es : List Escape) → list_all (λ e. is_byte e.point) es ≡ true →
    option_map (λ e. e.point) (find (λ e. e.letter == c) es) ≡ Some p → is_byte p ≡ true
point_in c p [] all e = cc
point_in c p (x ∷ es) all e = elim (cases_Bool (x.letter == c)) [
  | inl here ↦
      let some : Some x.point ≡ Some p = rw here at e in
      let is : x.point ≡ p = cc in
      ap is_byte (sym is) ∙ (and_parts (is_byte x.point) (list_all (λ e. is_byte e.point) es) all).0
  | inr other ↦
      let later : option_map (λ e. e.point) (find (λ e. e.letter == c) es) ≡ Some p = rw other at e in
      point_in c p es (and_parts (is_byte x.point) (list_all (λ e. is_byte e.point) es) all).1 later
]

pub escape_small : (c p : ℕ) → escape_point c ≡ Some p → is_byte p ≡ true
escape_small c p e = point_in c p escapes refl e

escaped_other : (c : ℕ) (cs : List ℕ) (o : Option ℕ) → (c == 10) ≡ false → is_digit c 8 ≡ false → (c == 120) ≡ false → escape_point c ≡ o →
    IsSmall (escaped_by true (c ∷ cs)).meaning
unfolding escaped_by
escaped_other c cs (Some p) no_feed no_digit no_x e = rw (no_feed, no_digit, no_x, e) (point_small p (escape_small c p e))
escaped_other c cs None no_feed no_digit no_x e = rw (no_feed, no_digit, no_x, e) (point_small 92 refl)

escaped_octal : (c : ℕ) (cs : List ℕ) → (c == 10) ≡ false → is_digit c 8 ≡ true
    → escaped_by true (c ∷ cs) ≡ octal true (digits_at_front 8 3 (c ∷ cs))
unfolding escaped_by
escaped_octal c cs no_feed digit = rw (no_feed, digit) refl

escaped_hexadecimal : (c : ℕ) (cs : List ℕ) → (c == 10) ≡ false → is_digit c 8 ≡ false → (c == 120) ≡ true →
    escaped_by true (c ∷ cs) ≡ hexadecimal 2 (digits_at_front 16 2 cs)
unfolding escaped_by
escaped_hexadecimal c cs no_feed no_digit x = rw (no_feed, no_digit, x) refl

escaped_small : (cs : List ℕ) → IsSmall (escaped_by true cs).meaning
unfolding escaped_by
escaped_small [] = point_small 92 refl
escaped_small (c ∷ cs) = elim (cases_Bool (c == 10)) [
  | inl feed ↦ rw feed (λ good. refl)
  | inr no_feed ↦ elim (cases_Bool (is_digit c 8)) [
    | inl digit ↦ subst (λ (r : Reading). IsSmall r.meaning) (sym (escaped_octal c cs no_feed digit))
        (octal_small (digits_at_front 8 3 (c ∷ cs)))
    | inr no_digit ↦ elim (cases_Bool (c == 120)) [
      | inl x ↦ subst (λ (r : Reading). IsSmall r.meaning) (sym (escaped_hexadecimal c cs no_feed no_digit x)) (hexadecimal_small cs)
      | inr no_x ↦ escaped_other c cs (escape_point c) no_feed no_digit no_x refl
    ]
  ]
]

-- the body of a literal

reading_small : (raw : Bool) (c : ℕ) (cs : List ℕ) → is_low c ≡ true → IsSmall (reading raw true c cs).meaning
reading_small raw c cs low = elim (cases_Bool (not raw && (c == 92))) [
  | inl escape ↦ rw escape (escaped_small cs)
  | inr plain ↦ rw plain (point_small c (low_small c low))
]

meanings_small : (raw : Bool) (n : ℕ) (cs : List ℕ) → list_all is_low cs ≡ true
    → list_any is_bad_escape (meanings_after raw true n cs) ≡ false
    → list_all is_byte (flat_map points_in (meanings_after raw true n cs)) ≡ true
meanings_small raw n [] low good = refl
meanings_small raw (suc n) (c ∷ cs) low good = meanings_small raw n cs (and_parts (is_low c) (list_all is_low cs) low).1 good
meanings_small raw zero (c ∷ cs) low good =
    let here = reading raw true c cs in
    let rest = meanings_after raw true here.more cs in
    let parts = or_parts (is_bad_escape here.meaning) (list_any is_bad_escape rest) good in
    let lows = and_parts (is_low c) (list_all is_low cs) low in
    list_all-append is_byte (points_in here.meaning) (flat_map points_in rest)
    ∙ and_from (list_all is_byte (points_in here.meaning)) (list_all is_byte (flat_map points_in rest))
    (reading_small raw c cs lows.0 parts.0)
    (meanings_small raw here.more cs lows.1 parts.1)

none_high : (t : List ℕ) → list_any (nat_lt 0x7F) t ≡ false → list_all is_low t ≡ true
none_high [] none = refl
none_high (c ∷ t) none =
    let parts = or_parts (nat_lt 0x7F c) (list_any (nat_lt 0x7F) t) none in
    and_from (is_low c) (list_all is_low t) (ap not parts.0) (none_high t parts.1)

-- what a literal without a fault has not

no_bad : (ms : List Meaning) → escape_fault ms ≡ None → list_any is_bad_escape ms ≡ false
unfolding escape_fault
no_bad ms sound = elim (cases_Bool (list_any is_named_escape ms)) [
  | inl named ↦ absurd (let some : Some errors.NamedEscape ≡ None = rw named at sound in cc)
  | inr other ↦ elim (cases_Bool (list_any is_bad_escape ms)) [
    | inl bad ↦ absurd (let some : Some errors.BadEscape ≡ None = rw (other, bad) at sound in cc)
    | inr good ↦ good
  ]
]

neither : (a b : Option TokenError) → option_or a b ≡ None → (a ≡ None) × (b ≡ None)
neither None b e = (refl, e)
neither (Some x) b e = cc

pub record Faultless (t : List ℕ) : Type 0 where
  pub good : list_any is_bad_escape (meanings (is_raw t) true (body_of t)) ≡ false
  pub low : list_all is_low t ≡ true

faultless : (t : List ℕ) → is_bytes t ≡ true → literal_fault t ≡ None → Faultless t
unfolding literal_fault
faultless t bytes sound = elim (cases_Bool (is_formatted t)) [
  | inl formatted ↦ absurd (let some : Some errors.FString ≡ None = rw formatted at sound in cc)
  | inr plain ↦
      let ms = meanings (is_raw t) true (body_of t) in
      let rest : option_or (escape_fault ms) (if list_any (nat_lt 0x7F) t then Some errors.NonAsciiBytes else nul_fault t) ≡ None = rw (
        plain,
        bytes,
      ) at sound in
      let parts = neither (escape_fault ms) (if list_any (nat_lt 0x7F) t then Some errors.NonAsciiBytes else nul_fault t) rest in
      record { good = no_bad ms parts.0; low = none_high t (all_low (list_any (nat_lt 0x7F) t) parts.1) }
]
  where
    all_low : (b : Bool) → (if b then Some errors.NonAsciiBytes else nul_fault t) ≡ None → b ≡ false
    all_low true e = cc
    all_low false e = refl

pub points_small : (t : List ℕ) → is_bytes t ≡ true → literal_fault t ≡ None → list_all is_byte (points_of t) ≡ true
unfolding points_of meanings
points_small t bytes sound =
    let f = faultless t bytes sound in
    rw bytes (meanings_small (is_raw t) 0 (body_of t) (body_all is_low t f.low) f.good)

pub bytes_are_small : BytesAreSmall
unfolding string_value value_of string_fault
bytes_are_small t bs value sound = elim (cases_Bool (is_bytes (with_line_feeds t))) [
  | inl bytes ↦
      let same : Bytes (points_of (with_line_feeds t)) ≡ Bytes bs = rw bytes at value in
      let is : points_of (with_line_feeds t) ≡ bs = cc in
      let all : list_all is_byte bs ≡ true = subst (λ (xs : List ℕ). list_all is_byte xs ≡ true) is
      (points_small (with_line_feeds t) bytes sound) in
      λ k d within. ltb-true (get_or bs k d) 0x100 (and_at (list_all is_byte) is_byte refl (λ x xs. refl) bs k d within all)
  | inr text ↦ absurd (let same : Str (points_of (with_line_feeds t)) (is_unicode (with_line_feeds t)) ≡ Bytes bs = rw text at value in cc)
]
