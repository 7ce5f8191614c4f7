-- Carries: points_are_in_range. On: the points of a literal whose characters are code points.
use Rattle.std.proofs.Common.{◌≡◌, ℕ, zero, suc, ◌≤◌, Bool, true, false, List, [], ◌∷◌, length, take, refl, sym, subst, ◌∙◌, inl, inr}
use Rattle.std.proofs.Common.{arith, Option}
use Rattle.std.proofs.Common.{Some, None}
use Rattle.std.specs.Prelude.{◌==◌, ◌&&◌, not, nat_lt, nat_le, if◌then◌else◌}
use Rattle.std.specs.Char.{is_digit, digit_value}
use Rattle.std.specs.List.{list_all, flat_map}
use Rattle.std.specs.Str.Parse.{AllDigits, digits_value}
use Rattle.std.proofs.Math.Nat.{pow-le-pow_right}
use Rattle.std.proofs.lemmas.Bool.{cases_Bool, and_from, and_parts, ltb-true, le-leb}
use Rattle.std.proofs.lemmas.Int.Digits.{digits_value-lt}
use Rattle.std.proofs.lemmas.List.Folds.{list_all-append}
use Rattle.std.proofs.lemmas.List.Sums.{take_while-cons}
use Rattle.pytoken.specs.declared.faults.TokenError.TheVariants as errors
use Rattle.pytoken.specs.declared.meanings.Meaning.{Meaning}
use Rattle.pytoken.specs.declared.meanings.Meaning.TheVariants.{Point, Wrong}
use Rattle.pytoken.specs.Escapes.{Reading, escape_point, digits_at_front, octal, hexadecimal, hexadecimal_len, names_character, escaped_by}
use Rattle.pytoken.specs.Escapes.{reading}
use Rattle.pytoken.specs.Escapes.{meanings_after, meanings, points_in}
use Rattle.pytoken.specs.Laws.{is_point, PointsAreInRange}
use Rattle.pytoken.proofs.SmallBytes.{escape_small}

abbrev IsMeant : Meaning → Type 0
IsMeant m = list_all is_point (points_in m) ≡ true

point_meant : (c : ℕ) → is_point c ≡ true → IsMeant (Point c)
point_meant c within = and_from (is_point c) true within refl

-- digits at the front of a text

one_front : (radix n c : ℕ) (cs : List ℕ) → is_digit c radix ≡ true
    → digits_at_front radix (suc n) (c ∷ cs) ≡ c ∷ digits_at_front radix n cs
one_front radix n c cs digit = take_while-cons (λ x. is_digit x radix) c (take n cs) ∙ (rw digit refl)

no_front : (radix n c : ℕ) (cs : List ℕ) → is_digit c radix ≡ false → digits_at_front radix (suc n) (c ∷ cs) ≡ []
no_front radix n c cs other = take_while-cons (λ x. is_digit x radix) c (take n cs) ∙ (rw other refl)

-- they are digits, and no more than were asked for
record IsFront (radix n : ℕ) (ds : List ℕ) : Type 0 where
  digits : AllDigits radix ds
  short : length ds ≤ n

front : (radix n : ℕ) (cs : List ℕ) → IsFront radix n (digits_at_front radix n cs)
front radix zero cs = record { digits = tt; short = omega arith }
front radix (suc n) [] = record { digits = tt; short = omega arith }
front radix (suc n) (c ∷ cs) = elim (cases_Bool (is_digit c radix)) [
  | inl digit ↦
      let rest = front radix n cs in
      subst (IsFront radix (suc n)) (sym (one_front radix n c cs digit))
      (record { digits = (ltb-true (digit_value c) radix digit, rest.digits); short = omega (arith, rest.short) })
  | inr other ↦ subst (IsFront radix (suc n)) (sym (no_front radix n c cs other)) (record { digits = tt; short = omega arith })
]

octal_meant : (bytes : Bool) (cs : List ℕ) → IsMeant (octal bytes (digits_at_front 8 3 cs)).meaning
octal_meant bytes cs = by (bytes && nat_lt 0xFF (digits_value 8 (digits_at_front 8 3 cs)))
  where
    by : (b : Bool) → IsMeant (if b then Wrong errors.BadEscape else Point (digits_value 8 (digits_at_front 8 3 cs)))
    by true = refl
    by false =
        let ds = digits_at_front 8 3 cs in
        let read = front 8 3 cs in
        let most = pow-le-pow_right {n = 8} (omega arith) {i = length ds} {j = 3} read.short in
        point_meant (digits_value 8 ds) (le-leb (digits_value 8 ds) 0x10_FFFF (omega (arith, digits_value-lt 8 ds read.digits, most)))

hexadecimal_meant : (n : ℕ) (ds : List ℕ) → IsMeant (hexadecimal n ds).meaning
hexadecimal_meant n ds = by (length ds == n) (nat_le (digits_value 16 ds) 0x10_FFFF) refl
  where
    by : (b d : Bool) → nat_le (digits_value 16 ds) 0x10_FFFF ≡ d
        → IsMeant (if b && d then Point (digits_value 16 ds) else Wrong errors.BadEscape)
    by true true within = point_meant (digits_value 16 ds) within
    by true false within = refl
    by false d within = refl

-- escapes

escaped_octal : (bytes : Bool) (c : ℕ) (cs : List ℕ) → (c == 10) ≡ false → is_digit c 8 ≡ true →
    escaped_by bytes (c ∷ cs) ≡ octal bytes (digits_at_front 8 3 (c ∷ cs))
unfolding escaped_by
escaped_octal bytes c cs no_feed digit = rw (no_feed, digit) refl

escaped_hexadecimal : (bytes : Bool) (c : ℕ) (cs : List ℕ) → (c == 10) ≡ false → is_digit c 8 ≡ false
    → nat_lt 0 (hexadecimal_len bytes c) ≡ true
    → escaped_by bytes (c ∷ cs) ≡ hexadecimal (hexadecimal_len bytes c) (digits_at_front 16 (hexadecimal_len bytes c) cs)
unfolding escaped_by
escaped_hexadecimal bytes c cs no_feed no_digit asks = rw (no_feed, no_digit, asks) refl

escaped_letter : (bytes : Bool) (c : ℕ) (cs : List ℕ) (o : Option ℕ) → (c == 10) ≡ false → is_digit c 8 ≡ false →
    nat_lt 0 (hexadecimal_len bytes c) ≡ false → names_character bytes c ≡ false
    → escape_point c ≡ o → IsMeant (escaped_by bytes (c ∷ cs)).meaning
unfolding escaped_by
escaped_letter bytes c cs (Some p) no_feed no_digit none unnamed e =
    let small = ltb-true p 0x100 (escape_small c p e) in
    rw (no_feed, no_digit, none, unnamed, e) (point_meant p (le-leb p 0x10_FFFF (omega (arith, small))))
escaped_letter bytes c cs None no_feed no_digit none unnamed e = rw (no_feed, no_digit, none, unnamed, e) refl

escaped_meant : (bytes : Bool) (cs : List ℕ) → IsMeant (escaped_by bytes cs).meaning
unfolding escaped_by
escaped_meant bytes [] = refl
escaped_meant bytes (c ∷ cs) = elim (cases_Bool (c == 10)) [
  | inl feed ↦ rw feed refl
  | inr no_feed ↦ elim (cases_Bool (is_digit c 8)) [
    | inl digit ↦ subst (λ (r : Reading). IsMeant r.meaning) (sym (escaped_octal bytes c cs no_feed digit)) (octal_meant bytes (c ∷ cs))
    | inr no_digit ↦ elim (cases_Bool (nat_lt 0 (hexadecimal_len bytes c))) [
      | inl asks ↦
          subst (λ (r : Reading). IsMeant r.meaning) (sym (escaped_hexadecimal bytes c cs no_feed no_digit asks))
          (hexadecimal_meant (hexadecimal_len bytes c) (digits_at_front 16 (hexadecimal_len bytes c) cs))
      | inr none ↦ elim (cases_Bool (names_character bytes c)) [
        | inl named ↦ rw (no_feed, no_digit, none, named) refl
        | inr unnamed ↦ escaped_letter bytes c cs (escape_point c) no_feed no_digit none unnamed refl
      ]
    ]
  ]
]

-- the body of a literal

reading_meant : (raw bytes : Bool) (c : ℕ) (cs : List ℕ) → is_point c ≡ true → IsMeant (reading raw bytes c cs).meaning
reading_meant raw bytes c cs own = elim (cases_Bool (not raw && (c == 92))) [
  | inl escape ↦ rw escape (escaped_meant bytes cs)
  | inr plain ↦ rw plain (point_meant c own)
]

all_meant : (raw bytes : Bool) (n : ℕ) (cs : List ℕ) → list_all is_point cs ≡ true →
    list_all is_point (flat_map points_in (meanings_after raw bytes n cs)) ≡ true
all_meant raw bytes n [] own = refl
all_meant raw bytes (suc n) (c ∷ cs) own = all_meant raw bytes n cs (and_parts (is_point c) (list_all is_point cs) own).1
all_meant raw bytes zero (c ∷ cs) own =
    let here = reading raw bytes c cs in
    let rest = flat_map points_in (meanings_after raw bytes here.more cs) in
    let parts = and_parts (is_point c) (list_all is_point cs) own in
    list_all-append is_point (points_in here.meaning) rest
    ∙ and_from (list_all is_point (points_in here.meaning)) (list_all is_point rest) (reading_meant raw bytes c cs parts.0)
    (all_meant raw bytes here.more cs parts.1)

pub points_are_in_range : PointsAreInRange
unfolding meanings
points_are_in_range raw bytes cs own = all_meant raw bytes 0 cs own
