-- What a number begins with.
--
-- Carries: number_begins, begins_more, for NumberFronts.
use Rattle.std.proofs.Common.{◌≡◌, ℕ, Bool, true, false, ◌&&◌, ◌||◌, List, [], ◌∷◌, ◌++◌, refl, ⊎_elim}
use Rattle.std.proofs.lemmas.Bool.{or_cases, and_parts}
use Rattle.pylex_lexeme.specs.Chars.{begins}
use Rattle.pylex_lexeme.specs.Numbers.{is_nil, split_any, optional, headed, is_digit_part, is_exponent, is_decimal_digit, is_zero}
use Rattle.pylex_lexeme.specs.Numbers.{is_point, is_j, is_decimal, is_radix, is_point_after}
use Rattle.pylex_lexeme.specs.Numbers.{is_point_before}
use Rattle.pylex_lexeme.specs.Numbers.{is_raised, is_float, is_imaginary, is_number}
use Rattle.pylex_lexeme.specs.Lengths.{begins_number}
use Rattle.pylex_lexeme.proofs.Callers.Numbers.{zero_digit, decimal_part}

-- ---- The first characters.

-- a test of texts that a first part settles
split_begins : (b p q : List ℕ → Bool) → ((u r : List ℕ) → p u ≡ true → b (u ++ r) ≡ true) → (t : List ℕ)
    → split_any p q t ≡ true → b t ≡ true
split_begins b p q f [] e = f [] [] (and_parts (p []) (q []) e).0
split_begins b p q f (c ∷ t) e =
    ⊎_elim
    (λ (h : (p [] && q (c ∷ t)) ≡ true). f [] (c ∷ t) (and_parts (p []) (q (c ∷ t)) h).0)
    (split_begins (λ u. b (c ∷ u)) (λ u. p (c ∷ u)) q (λ u. f (c ∷ u)) t)
    (or_cases (p [] && q (c ∷ t)) (split_any (λ u. p (c ∷ u)) q t) e)

digit_begins : (t r : List ℕ) → is_digit_part t ≡ true → begins is_decimal_digit (t ++ r) ≡ true
digit_begins [] r e = cc
digit_begins (c ∷ t) r e = (and_parts (is_decimal_digit c) _ e).0

part_begins : (t r : List ℕ) → is_digit_part t ≡ true → begins_number (t ++ r) ≡ true
part_begins t r e = let d = digit_begins t r e in rw d refl

point_begins : (t : List ℕ) → is_point_before t ≡ true → begins_number t ≡ true
unfolding is_point_before
point_begins [] e = cc
point_begins (c ∷ t) e =
    let h = and_parts (is_point c) (split_any is_digit_part (optional is_exponent) t) e in
    let d = split_begins (begins is_decimal_digit) is_digit_part (optional is_exponent) digit_begins t h.1 in
    last (is_decimal_digit c) h.0 d
  where
    last : (b : Bool) → is_point c ≡ true → begins is_decimal_digit t ≡ true → (b || (is_point c && begins is_decimal_digit t)) ≡ true
    last true p d = refl
    last false p d = rw (p, d) refl

float_begins : (t : List ℕ) → is_float t ≡ true → begins_number t ≡ true
unfolding is_float is_point_after is_raised
float_begins t e =
    ⊎_elim
    (λ (h : (is_point_after t || is_point_before t) ≡ true). ⊎_elim
    (split_begins begins_number is_digit_part _ part_begins t) (point_begins t)
    (or_cases (is_point_after t) (is_point_before t) h))
    (split_begins begins_number is_digit_part is_exponent part_begins t)
    (or_cases (is_point_after t || is_point_before t) (is_raised t) e)

pub begins_more : (t r : List ℕ) → begins_number t ≡ true → begins_number (t ++ r) ≡ true
begins_more [] r e = cc
begins_more (c ∷ []) r e =
    ⊎_elim
    (λ (h : is_decimal_digit c ≡ true). rw h refl)
    (λ (h : (is_point c && false) ≡ true). let n = and_parts (is_point c) false h in cc)
    (or_cases (is_decimal_digit c) (is_point c && false) e)
begins_more (c ∷ d ∷ t) r e = e

imaginary_begins : (t : List ℕ) → is_imaginary t ≡ true → begins_number t ≡ true
unfolding is_imaginary
imaginary_begins t e =
    split_begins begins_number (λ u. is_digit_part u || is_float u) (headed is_j is_nil)
    (λ u r h. ⊎_elim (part_begins u r) (λ (f : is_float u ≡ true). begins_more u r (float_begins u f))
    (or_cases (is_digit_part u) (is_float u) h)) t e

whole_begins : (t : List ℕ) → (is_decimal t || is_radix t) ≡ true → begins is_decimal_digit t ≡ true
unfolding is_decimal is_radix
whole_begins [] e = cc
whole_begins (c ∷ t) e =
    ⊎_elim
    (λ (h : is_decimal (c ∷ t) ≡ true). digit_begins (c ∷ t) [] (decimal_part (c ∷ t) h))
    (λ (h : is_radix (c ∷ t) ≡ true). zero_digit c (zero (is_zero c) _ _ _ h))
    (or_cases (is_decimal (c ∷ t)) (is_radix (c ∷ t)) e)
  where
    zero : (z a b d : Bool) → ((z && a) || (z && b) || (z && d)) ≡ true → z ≡ true
    zero true a b d e = refl
    zero false a b d e = cc

-- A number begins with a digit, or with a point and a digit.
pub number_begins : (t : List ℕ) → is_number t ≡ true → begins_number t ≡ true
unfolding is_number
number_begins t e =
    ⊎_elim
    (λ (h : (is_decimal t || is_radix t || is_float t) ≡ true).
    ⊎_elim
    (λ (i : (is_decimal t || is_radix t) ≡ true). let d = whole_begins t i in rw d refl)
    (float_begins t)
    (or_cases (is_decimal t || is_radix t) (is_float t) h))
    (imaginary_begins t)
    (or_cases (is_decimal t || is_radix t || is_float t) (is_imaginary t) e)
