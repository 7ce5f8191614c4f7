-- Carries: faults_are_by_class, Numerals. On: which characters stand in the numbers of each class.
use Rattle.std.proofs.Common.{◌≡◌, ℕ, ◌^◌, Bool, true, false, List, [], ◌∷◌, refl, ap, inl, inr, arith, Some}
use Rattle.std.specs.Prelude.{◌==◌, ◌||◌, ◌&&◌, not}
use Rattle.std.specs.List.{list_any, list_all}
use Rattle.std.proofs.lemmas.Bool.{and_from, and_left, and_right, or_left, or_right, cases_Bool, not-true, or_cases, and_parts}
use Rattle.std.proofs.lemmas.Bool.Decides.{nat_tests}
use Rattle.pylex_lexeme.specs.Numbers.{is_nil, split_any, optional, headed, is_decimal_digit, is_zero, is_hex_digit, is_octal_digit}
use Rattle.pylex_lexeme.specs.Numbers.{is_binary_digit}
use Rattle.pylex_lexeme.specs.Numbers.{is_point, is_e, is_j, is_x, is_o, is_b, is_sign, are_some, is_decimal, is_radix, is_digit_part}
use Rattle.pylex_lexeme.specs.Numbers.{is_exponent}
use Rattle.pylex_lexeme.specs.Numbers.{is_point_after, is_point_before, is_raised, is_float, is_imaginary}
use Rattle.pylex_lexeme.proofs.Callers.Fronts.{split_all, joined_all}
use Rattle.pylex_lexeme.proofs.Callers.Numbers.{digit_bounds, either, either_not, point_is, part_all, decimal_part}
use Rattle.pynumber.specs.FloatValues.{float_value}
use Rattle.pytree_node.specs.Values.{Int, Float, Imaginary}
use Rattle.pytree_node.specs.declared.profiles.Extent.TheVariants.{Plain}
use Rattle.pytoken.specs.declared.faults.TokenError.TheVariants as errors
use Rattle.pytoken.specs.NumberValues.{radix_of, whole_value, is_complex, is_real, number_value, number_fault, too_large}
use Rattle.pytoken.specs.Laws.{FaultsAreByClass}
use Rattle.pytoken.proofs.NumberKinds.{fault_complex, fault_real, value_complex, value_real, value_whole}
use Rattle.pytoken.proofs.Constants.{none_of}

-- Texts in parts

-- where the rest of a text has some character, so has the text
split_has : (p q : List ℕ → Bool) (r : ℕ → Bool) → ((u : List ℕ) → q u ≡ true → list_any r u ≡ true)
    → (t : List ℕ) → split_any p q t ≡ true → list_any r t ≡ true
split_has p q r has [] h = has [] (and_parts (p []) (q []) h).1
split_has p q r has (c ∷ cs) h = elim (or_cases (p [] && q (c ∷ cs)) (split_any (λ t. p (c ∷ t)) q cs) h) [
  | inl here ↦ has (c ∷ cs) (and_parts (p []) (q (c ∷ cs)) here).1
  | inr later ↦ or_right (r c) (list_any r cs) (split_has (λ t. p (c ∷ t)) q r has cs later)
]

-- the first character is one of those
headed_has : (f : ℕ → Bool) (p : List ℕ → Bool) (r : ℕ → Bool) → ((c : ℕ) → f c ≡ true → r c ≡ true)
    → (t : List ℕ) → headed f p t ≡ true → list_any r t ≡ true
headed_has f p r first [] h = h
headed_has f p r first (c ∷ t) h = or_left (r c) (list_any r t) (first c (and_parts (f c) (p t) h).0)

headed_all : (r f : ℕ → Bool) (p : List ℕ → Bool) → ((c : ℕ) → f c ≡ true → r c ≡ true) → ((u : List ℕ) → p u ≡ true → list_all r u ≡ true)
    → (t : List ℕ) → headed f p t ≡ true → list_all r t ≡ true
headed_all r f p first rest [] h = refl
headed_all r f p first rest (c ∷ t) h =
    let parts = and_parts (f c) (p t) h in
    and_from (r c) (list_all r t) (first c parts.0) (rest t parts.1)

optional_all : (r : ℕ → Bool) (p : List ℕ → Bool) → ((u : List ℕ) → p u ≡ true → list_all r u ≡ true)
    → (t : List ℕ) → optional p t ≡ true → list_all r t ≡ true
optional_all r p rest [] h = refl
optional_all r p rest (c ∷ t) h = rest (c ∷ t) h

-- Decimal digits, points, exponents: no letter of a base, and no j

abbrev is_plain : ℕ → Bool
is_plain c = not (is_j c) && (not (is_x c) && (not (is_o c) && not (is_b c)))

digit_plain : (c : ℕ) → is_decimal_digit c ≡ true → is_plain c ≡ true
digit_plain c e =
    let bounds = digit_bounds c e in
    let j : is_j c ≡ false = grind (arith, nat_tests) in
    let x : is_x c ≡ false = grind (arith, nat_tests) in
    let o : is_o c ≡ false = grind (arith, nat_tests) in
    let b : is_b c ≡ false = grind (arith, nat_tests) in
    rw (j, x, o, b) refl

e_plain : (c : ℕ) → is_e c ≡ true → is_plain c ≡ true
e_plain c h = either is_plain 101 69 c h refl refl

sign_plain : (c : ℕ) → is_sign c ≡ true → is_plain c ≡ true
sign_plain c h = either is_plain 43 45 c h refl refl

point_plain : (c : ℕ) → is_point c ≡ true → is_plain c ≡ true
point_plain c h = let is = point_is c h in rw is refl

part_plain : (t : List ℕ) → is_digit_part t ≡ true → list_all is_plain t ≡ true
part_plain t h = part_all is_plain digit_plain refl t h

exponent_plain : (t : List ℕ) → is_exponent t ≡ true → list_all is_plain t ≡ true
unfolding is_exponent
exponent_plain t h = elim (or_cases (headed is_e is_digit_part t) (headed is_e (headed is_sign is_digit_part) t) h) [
  | inl bare ↦ headed_all is_plain is_e is_digit_part e_plain part_plain t bare
  | inr signed ↦
      headed_all is_plain is_e (headed is_sign is_digit_part) e_plain (headed_all is_plain is_sign is_digit_part sign_plain part_plain) t
      signed
]

then_plain : (p q : List ℕ → Bool) → ((t : List ℕ) → p t ≡ true → list_all is_plain t ≡ true) →
    ((t : List ℕ) → q t ≡ true → list_all is_plain t ≡ true)
    → (t : List ℕ) → split_any p q t ≡ true → list_all is_plain t ≡ true
then_plain p q front rest t h = split_all is_plain p q true t front rest h

float_plain : (t : List ℕ) → is_float t ≡ true → list_all is_plain t ≡ true
unfolding is_float is_point_after is_point_before is_raised
float_plain t h = elim (or_cases (is_point_after t || is_point_before t) (is_raised t) h) [
  | inl pointed ↦ elim (or_cases (is_point_after t) (is_point_before t) pointed) [
    | inl after ↦
        let fraction = split_any (optional is_digit_part) (optional is_exponent) in
        let following = then_plain (optional is_digit_part) (optional is_exponent) (optional_all is_plain is_digit_part part_plain)
        (optional_all is_plain is_exponent exponent_plain) in
        then_plain is_digit_part (headed is_point fraction) part_plain (headed_all is_plain is_point fraction point_plain following) t after
    | inr before ↦
        let fraction = split_any is_digit_part (optional is_exponent) in
        let following = then_plain is_digit_part (optional is_exponent) part_plain (optional_all is_plain is_exponent exponent_plain) in
        headed_all is_plain is_point fraction point_plain following t before
  ]
  | inr raised ↦ then_plain is_digit_part is_exponent part_plain exponent_plain t raised
]

plain_no_j : (c : ℕ) → is_plain c ≡ true → not (is_j c) ≡ true
plain_no_j c h = (and_parts (not (is_j c)) (not (is_x c) && (not (is_o c) && not (is_b c))) h).0

all_no_j : (t : List ℕ) → list_all is_plain t ≡ true → list_all (λ c. not (is_j c)) t ≡ true
all_no_j [] h = refl
all_no_j (c ∷ t) h =
    let parts = and_parts (is_plain c) (list_all is_plain t) h in
    and_from (not (is_j c)) (list_all (λ c. not (is_j c)) t) (plain_no_j c parts.0) (all_no_j t parts.1)

not_complex : (t : List ℕ) → list_all is_plain t ≡ true → is_complex t ≡ false
not_complex t h = none_of is_j t (all_no_j t h)

radix_ten : (t : List ℕ) → list_all is_plain t ≡ true → radix_of t ≡ 10
radix_ten [] h = refl
radix_ten (a ∷ []) h = refl
radix_ten (a ∷ b ∷ t) h =
    let second = (and_parts (is_plain b) (list_all is_plain t) (and_parts (is_plain a) (list_all is_plain (b ∷ t)) h).1).0 in
    let letters = (and_parts (not (is_j b)) (not (is_x b) && (not (is_o b) && not (is_b b))) second).1 in
    let others = and_parts (not (is_x b)) (not (is_o b) && not (is_b b)) letters in
    let last = and_parts (not (is_o b)) (not (is_b b)) others.1 in
    let x = not-true (is_x b) others.0 in
    let o = not-true (is_o b) last.0 in
    let two = not-true (is_b b) last.1 in
    rw (x, o, two) refl

-- A point or an exponent

abbrev is_mark : ℕ → Bool
is_mark c = is_point c || is_e c

point_marks : (c : ℕ) → is_point c ≡ true → is_mark c ≡ true
point_marks c h = or_left (is_point c) (is_e c) h

e_marks : (c : ℕ) → is_e c ≡ true → is_mark c ≡ true
e_marks c h = or_right (is_point c) (is_e c) h

exponent_has : (t : List ℕ) → is_exponent t ≡ true → list_any is_mark t ≡ true
unfolding is_exponent
exponent_has t h = elim (or_cases (headed is_e is_digit_part t) (headed is_e (headed is_sign is_digit_part) t) h) [
  | inl bare ↦ headed_has is_e is_digit_part is_mark e_marks t bare
  | inr signed ↦ headed_has is_e (headed is_sign is_digit_part) is_mark e_marks t signed
]

float_has : (t : List ℕ) → is_float t ≡ true → list_any is_mark t ≡ true
unfolding is_float is_point_after is_point_before is_raised
float_has t h = elim (or_cases (is_point_after t || is_point_before t) (is_raised t) h) [
  | inl pointed ↦ elim (or_cases (is_point_after t) (is_point_before t) pointed) [
    | inl after ↦
        let fraction = split_any (optional is_digit_part) (optional is_exponent) in
        split_has is_digit_part (headed is_point fraction) is_mark (headed_has is_point fraction is_mark point_marks) t after
    | inr before ↦ headed_has is_point (split_any is_digit_part (optional is_exponent)) is_mark point_marks t before
  ]
  | inr raised ↦ split_has is_digit_part is_exponent is_mark exponent_has t raised
]

digit_unmarked : (c : ℕ) → is_decimal_digit c ≡ true → not (is_mark c) ≡ true
digit_unmarked c e =
    let bounds = digit_bounds c e in
    let point : is_point c ≡ false = grind (arith, nat_tests) in
    let raised : is_e c ≡ false = grind (arith, nat_tests) in
    rw (point, raised) refl

decimal_unmarked : (t : List ℕ) → is_decimal t ≡ true → list_any is_mark t ≡ false
decimal_unmarked t h = none_of is_mark t (part_all (λ c. not (is_mark c)) digit_unmarked refl t (decimal_part t h))

-- The digits of another base

-- a set that j isn't in
no_j : (f : ℕ → Bool) → f 106 ≡ false → f 74 ≡ false → (c : ℕ) → f c ≡ true → not (is_j c) ≡ true
no_j f small capital c h = elim (cases_Bool (is_j c)) [
  | inl j ↦ let none = either_not f 106 74 c j small capital in absurd (let both : false ≡ true = rw none at h in cc)
  | inr other ↦ rw other refl
]

based_no_j : (f d : ℕ → Bool) → ((c : ℕ) → f c ≡ true → not (is_j c) ≡ true) → ((c : ℕ) → d c ≡ true → not (is_j c) ≡ true)
    → (t : List ℕ) → headed is_zero (headed f (are_some d)) t ≡ true → list_all (λ c. not (is_j c)) t ≡ true
based_no_j f d letter digit t h =
    headed_all (λ c. not (is_j c)) is_zero (headed f (are_some d)) (no_j is_zero refl refl)
    (headed_all (λ c. not (is_j c)) f (are_some d) letter some) t h
  where
    some : (u : List ℕ) → are_some d u ≡ true → list_all (λ c. not (is_j c)) u ≡ true
    some [] e = refl
    some (c ∷ u) e = joined_all (λ c. not (is_j c)) d (c ∷ u) digit refl e

-- the second character is the base's letter
second_is : (f d : ℕ → Bool) (a b : ℕ) (t : List ℕ) → headed is_zero (headed f (are_some d)) (a ∷ b ∷ t) ≡ true → f b ≡ true
second_is f d a b t h = (and_parts (f b) (are_some d t) (and_parts (is_zero a) (headed f (are_some d) (b ∷ t)) h).1).0

too_short : (f d : ℕ → Bool) (a : ℕ) → headed is_zero (headed f (are_some d)) (a ∷ []) ≡ true → ⊥
too_short f d a h = let none : false ≡ true = (and_parts (is_zero a) false h).1 in cc

-- a number of another base, by that
data Based (t : List ℕ) : Type 0 where
  hexadecimal : headed is_zero (headed is_x (are_some is_hex_digit)) t ≡ true → Based t
  octal : headed is_zero (headed is_o (are_some is_octal_digit)) t ≡ true → Based t
  binary : headed is_zero (headed is_b (are_some is_binary_digit)) t ≡ true → Based t

based : (t : List ℕ) → is_radix t ≡ true → Based t
unfolding is_radix
based t h =
    let first = headed is_zero (headed is_x (are_some is_hex_digit)) t in
    let second = headed is_zero (headed is_o (are_some is_octal_digit)) t in
    let third = headed is_zero (headed is_b (are_some is_binary_digit)) t in
    elim (or_cases (first || second) third h) [
      | inl earlier ↦ elim (or_cases first second earlier) [ inl is ↦ hexadecimal is | inr is ↦ octal is ]
      | inr is ↦ binary is
    ]

radix_not_complex : (t : List ℕ) → Based t → is_complex t ≡ false
radix_not_complex t (hexadecimal is) =
    none_of is_j t (based_no_j is_x is_hex_digit (no_j is_x refl refl) (no_j is_hex_digit refl refl) t is)
radix_not_complex t (octal is) = none_of is_j t (based_no_j is_o is_octal_digit (no_j is_o refl refl) (no_j is_octal_digit refl refl) t is)
radix_not_complex t (binary is) =
    none_of is_j t (based_no_j is_b is_binary_digit (no_j is_b refl refl) (no_j is_binary_digit refl refl) t is)

other_radix : (t : List ℕ) → Based t → (radix_of t == 10) ≡ false
other_radix [] (hexadecimal is) = cc
other_radix [] (octal is) = cc
other_radix [] (binary is) = cc
other_radix (a ∷ []) (hexadecimal is) = absurd (too_short is_x is_hex_digit a is)
other_radix (a ∷ []) (octal is) = absurd (too_short is_o is_octal_digit a is)
other_radix (a ∷ []) (binary is) = absurd (too_short is_b is_binary_digit a is)
other_radix (a ∷ b ∷ t) (hexadecimal is) = let x = second_is is_x is_hex_digit a b t is in rw x refl
other_radix (a ∷ b ∷ t) (octal is) =
    let o = second_is is_o is_octal_digit a b t is in
    let x = either_not is_x 111 79 b o refl refl in
    rw (x, o) refl
other_radix (a ∷ b ∷ t) (binary is) =
    let two = second_is is_b is_binary_digit a b t is in
    let x = either_not is_x 98 66 b two refl refl in
    let o = either_not is_o 98 66 b two refl refl in
    rw (x, o, two) refl

-- What is a float literal, and what an imaginary one

pub imaginary_complex : (t : List ℕ) → is_imaginary t ≡ true → is_complex t ≡ true
unfolding is_imaginary
imaginary_complex t h = split_has (λ u. is_digit_part u || is_float u) (headed is_j is_nil) is_j
    (headed_has is_j is_nil is_j (λ c j. j)) t h

pub float_not_complex : (t : List ℕ) → is_float t ≡ true → is_complex t ≡ false
float_not_complex t h = not_complex t (float_plain t h)

pub float_real : (t : List ℕ) → is_float t ≡ true → is_real t ≡ true
float_real t h =
    and_from (radix_of t == 10) (list_any is_mark t) (ap (λ (n : ℕ). n == 10) (radix_ten t (float_plain t h))) (float_has t h)

pub decimal_not_complex : (t : List ℕ) → is_decimal t ≡ true → is_complex t ≡ false
decimal_not_complex t h = not_complex t (part_plain t (decimal_part t h))

pub decimal_not_real : (t : List ℕ) → is_decimal t ≡ true → is_real t ≡ false
decimal_not_real t h = and_right (radix_of t == 10) (list_any is_mark t) (decimal_unmarked t h)

-- The values, and the faults in the plain language

imaginary_is : (t : List ℕ) → is_imaginary t ≡ true
    → (number_fault Plain t ≡ Some errors.Complex) × (number_value t ≡ Imaginary (float_value t))
imaginary_is t h = let complex = imaginary_complex t h in (fault_complex Plain t complex, value_complex t complex)

float_is : (t : List ℕ) → is_float t ≡ true → (number_fault Plain t ≡ Some errors.Float) × (number_value t ≡ Float (float_value t))
float_is t h =
    let complex = float_not_complex t h in
    let real = float_real t h in
    (fault_real Plain t complex real, value_real t complex real)

plain_whole : (t : List ℕ) → is_complex t ≡ false → is_real t ≡ false → number_fault Plain t ≡ too_large (2 ^ 128) t
unfolding number_fault
plain_whole t complex real = rw (complex, real) refl

whole_by : (t : List ℕ) → is_complex t ≡ false → is_real t ≡ false
    → (number_fault Plain t ≡ too_large (2 ^ 128) t) × (number_value t ≡ Int (whole_value t))
whole_by t complex real = (plain_whole t complex real, value_whole t complex real)

whole_is : (t : List ℕ) → (is_decimal t || is_radix t) ≡ true
    → (number_fault Plain t ≡ too_large (2 ^ 128) t) × (number_value t ≡ Int (whole_value t))
whole_is t h = elim (or_cases (is_decimal t) (is_radix t) h) [
  | inl decimal ↦ whole_by t (decimal_not_complex t decimal) (decimal_not_real t decimal)
  | inr radix ↦ whole_by t (radix_not_complex t (based t radix))
      (and_left (radix_of t == 10) (list_any is_mark t) (other_radix t (based t radix)))
]

pub faults_are_by_class : FaultsAreByClass
faults_are_by_class t = record { imaginary = imaginary_is t; float = float_is t; whole = whole_is t }
