-- Which characters stand in a number: a sign stands after an e alone.
-- Carries: Lexemes.
use Rattle.std.proofs.Common.{◌≡◌, ℕ, zero, suc, ◌<◌, Bool, true, false, List, [], ◌∷◌, ◌++◌, refl, sym, subst, ap, inl, inr, arith}
use Rattle.std.specs.Prelude.{◌||◌, ◌&&◌, ◌==◌}
use Rattle.std.specs.Char.{is_ascii_alphanumeric}
use Rattle.std.specs.List.{list_all}
use Rattle.std.specs.Str.{IsAscii, all_scalars}
use Rattle.std.proofs.Math.Utf8.{low_scalar, scalar}
use Rattle.std.proofs.lemmas.Bool.{and_from, and_parts, or_left, or_right, false≢true, or_cases}
use Rattle.std.proofs.lemmas.Bool.Decides.{nat_tests}
use Rattle.pylex_lexeme.specs.Numbers.{is_nil, split_any, optional, headed, are_some, is_decimal_digit, is_zero, is_hex_digit}
use Rattle.pylex_lexeme.specs.Numbers.{is_octal_digit, is_binary_digit}
use Rattle.pylex_lexeme.specs.Numbers.{is_point, is_e, is_j, is_x, is_o, is_b, is_sign, is_digit_part, is_exponent, is_decimal, is_radix}
use Rattle.pylex_lexeme.specs.Numbers.{is_point_after, is_point_before, is_raised, is_float, is_imaginary, is_number}
use Rattle.pylex_lexeme.proofs.Callers.Fronts.{joined_all}
use Rattle.pylex_lexeme.proofs.Callers.Numbers.{digit_bounds, either, part_all, decimal_part}

-- a character of a number other than a sign
abbrev pub is_word : ℕ → Bool
is_word c = (is_ascii_alphanumeric c || (c == 95)) || is_point c

-- Each sign stands after an e, which may be what stands before the text.
abbrev pub are_tied : Bool → List ℕ → Bool
are_tied after_e [] = true
are_tied after_e (c ∷ t) = (is_word c || (after_e && is_sign c)) && are_tied (is_e c) t

-- Signs after an e

tied_after : (following : Bool) (t : List ℕ) → are_tied false t ≡ true → are_tied following t ≡ true
tied_after following [] h = refl
tied_after following (c ∷ t) h =
    let parts = and_parts (is_word c || false) (are_tied (is_e c) t) h in
    let word : is_word c ≡ true = elim (or_cases (is_word c) false parts.0) [ inl is ↦ is | inr none ↦ absurd (false≢true none) ] in
    and_from (is_word c || (following && is_sign c)) (are_tied (is_e c) t) (or_left (is_word c) (following && is_sign c) word) parts.1

tied_append : (following : Bool) (u v : List ℕ) → are_tied following u ≡ true → are_tied false v ≡ true → are_tied following (u ++ v) ≡ true
tied_append following [] v h k = tied_after following v k
tied_append following (c ∷ u) v h k =
    let parts = and_parts (is_word c || (following && is_sign c)) (are_tied (is_e c) u) h in
    and_from (is_word c || (following && is_sign c)) (are_tied (is_e c) (u ++ v)) parts.0 (tied_append (is_e c) u v parts.1 k)

words_tied : (following : Bool) (t : List ℕ) → list_all is_word t ≡ true → are_tied following t ≡ true
words_tied following [] h = refl
words_tied following (c ∷ t) h =
    let parts = and_parts (is_word c) (list_all is_word t) h in
    and_from (is_word c || (following && is_sign c)) (are_tied (is_e c) t) (or_left (is_word c) (following && is_sign c) parts.0)
    (words_tied (is_e c) t parts.1)

-- a front and a rest
record Split (p q : List ℕ → Bool) (t : List ℕ) : Type 0 where
  front : List ℕ
  rest : List ℕ
  text : t ≡ front ++ rest
  first : p front ≡ true
  then : q rest ≡ true

split_of : (p q : List ℕ → Bool) (t : List ℕ) → split_any p q t ≡ true → Split p q t
split_of p q [] h = let parts = and_parts (p []) (q []) h in record { front = []; rest = []; text = refl; first = parts.0; then = parts.1 }
split_of p q (c ∷ t) h = elim (or_cases (p [] && q (c ∷ t)) (split_any (λ u. p (c ∷ u)) q t) h) [
  | inl here ↦ let parts = and_parts (p []) (q (c ∷ t)) here in record {
    front = [];
    rest = c ∷ t;
    text = refl;
    first =
        parts.0;
    then = parts.1;
  }
  | inr later ↦
      let s = split_of (λ u. p (c ∷ u)) q t later in
      record { front = c ∷ s.front; rest = s.rest; text = ap (λ u. c ∷ u) s.text; first = s.first; then = s.then }
]

-- every text that passes is tied
abbrev Ties : (List ℕ → Bool) → Type 0
Ties p = (t : List ℕ) → p t ≡ true → are_tied false t ≡ true

split_ties : (p q : List ℕ → Bool) → Ties p → Ties q → Ties (split_any p q)
split_ties p q front rest t h =
    let s = split_of p q t h in
    subst (λ u. are_tied false u ≡ true) (sym s.text) (tied_append false s.front s.rest (front s.front s.first) (rest s.rest s.then))

optional_ties : (p : List ℕ → Bool) → Ties p → Ties (optional p)
optional_ties p ties [] h = refl
optional_ties p ties (c ∷ t) h = ties (c ∷ t) h

headed_ties : (f : ℕ → Bool) (p : List ℕ → Bool) → ((c : ℕ) → f c ≡ true → is_word c ≡ true) → Ties p → Ties (headed f p)
headed_ties f p word ties [] h = refl
headed_ties f p word ties (c ∷ t) h =
    let parts = and_parts (f c) (p t) h in
    and_from (is_word c || false) (are_tied (is_e c) t) (or_left (is_word c) false (word c parts.0))
    (tied_after (is_e c) t (ties t parts.1))

-- Digits and letters

digit_word : (c : ℕ) → is_decimal_digit c ≡ true → is_word c ≡ true
digit_word c h = let b = digit_bounds c h in grind (arith, nat_tests)

hex_word : (c : ℕ) → is_hex_digit c ≡ true → is_word c ≡ true
hex_word c h = grind (arith, nat_tests)

octal_word : (c : ℕ) → is_octal_digit c ≡ true → is_word c ≡ true
octal_word c h = grind (arith, nat_tests)

binary_word : (c : ℕ) → is_binary_digit c ≡ true → is_word c ≡ true
binary_word c h = either is_word 48 49 c h refl refl

zero_word : (c : ℕ) → is_zero c ≡ true → is_word c ≡ true
zero_word c h = either is_word 48 48 c (or_left (c == 48) (c == 48) h) refl refl

point_word : (c : ℕ) → is_point c ≡ true → is_word c ≡ true
point_word c h = or_right (is_ascii_alphanumeric c || (c == 95)) (is_point c) h

e_word : (c : ℕ) → is_e c ≡ true → is_word c ≡ true
e_word c h = either is_word 101 69 c h refl refl

j_word : (c : ℕ) → is_j c ≡ true → is_word c ≡ true
j_word c h = either is_word 106 74 c h refl refl

-- The classes of numbers

part_ties : Ties is_digit_part
part_ties t h = words_tied false t (part_all is_word digit_word refl t h)

signed_ties : Ties (headed is_e (headed is_sign is_digit_part))
signed_ties [] h = refl
signed_ties (c ∷ []) h = let parts = and_parts (is_e c) false h in absurd (false≢true parts.1)
signed_ties (c ∷ s ∷ t) h =
    let first = and_parts (is_e c) (headed is_sign is_digit_part (s ∷ t)) h in
    let second = and_parts (is_sign s) (is_digit_part t) first.1 in
    let tied = or_right (is_word s) (is_e c && is_sign s) (and_from (is_e c) (is_sign s) first.0 second.0) in
    and_from (is_word c || false) (are_tied (is_e c) (s ∷ t)) (or_left (is_word c) false (e_word c first.0))
    (and_from (is_word s || (is_e c && is_sign s)) (are_tied (is_e s) t) tied
    (tied_after (is_e s) t (part_ties t second.1)))

exponent_ties : Ties is_exponent
unfolding is_exponent
exponent_ties t h = elim (or_cases (headed is_e is_digit_part t) (headed is_e (headed is_sign is_digit_part) t) h) [
  | inl bare ↦ headed_ties is_e is_digit_part e_word part_ties t bare
  | inr signed ↦ signed_ties t signed
]

abbrev following_point : List ℕ → Bool
following_point t = split_any (optional is_digit_part) (optional is_exponent) t

after_ties : Ties following_point
after_ties =
    split_ties (optional is_digit_part) (optional is_exponent) (optional_ties is_digit_part part_ties)
    (optional_ties is_exponent exponent_ties)

float_ties : Ties is_float
unfolding is_float is_point_after is_point_before is_raised
float_ties t h = elim (or_cases (is_point_after t || is_point_before t) (is_raised t) h) [
  | inl pointed ↦ elim (or_cases (is_point_after t) (is_point_before t) pointed) [
    | inl after ↦
        split_ties is_digit_part (headed is_point following_point) part_ties (headed_ties is_point following_point point_word after_ties) t after
    | inr before ↦
        headed_ties is_point (split_any is_digit_part (optional is_exponent)) point_word
        (split_ties is_digit_part (optional is_exponent) part_ties (optional_ties is_exponent exponent_ties)) t before
  ]
  | inr raised ↦ split_ties is_digit_part is_exponent part_ties exponent_ties t raised
]

nil_ties : Ties is_nil
nil_ties [] h = refl
nil_ties (c ∷ t) h = absurd (false≢true h)

imaginary_ties : Ties is_imaginary
unfolding is_imaginary
imaginary_ties = split_ties (λ u. is_digit_part u || is_float u) (headed is_j is_nil) either_ties (headed_ties is_j is_nil j_word nil_ties)
  where
    either_ties : Ties (λ u. is_digit_part u || is_float u)
    either_ties t h = elim (or_cases (is_digit_part t) (is_float t) h) [ inl part ↦ part_ties t part | inr float ↦ float_ties t float ]

based_ties : (f d : ℕ → Bool) → ((c : ℕ) → f c ≡ true → is_word c ≡ true) → ((c : ℕ) → d c ≡ true → is_word c ≡ true)
    → Ties (headed is_zero (headed f (are_some d)))
based_ties f d letter digit = headed_ties is_zero (headed f (are_some d)) zero_word (headed_ties f (are_some d) letter some)
  where
    some : Ties (are_some d)
    some [] h = refl
    some (c ∷ t) h = words_tied false (c ∷ t) (joined_all is_word d (c ∷ t) digit refl h)

radix_ties : Ties is_radix
unfolding is_radix
radix_ties t h =
    let x = headed is_zero (headed is_x (are_some is_hex_digit)) t in
    let o = headed is_zero (headed is_o (are_some is_octal_digit)) t in
    let b = headed is_zero (headed is_b (are_some is_binary_digit)) t in
    elim (or_cases (x || o) b h) [
      | inl earlier ↦ elim (or_cases x o earlier) [
        | inl is ↦ based_ties is_x is_hex_digit (λ c e. either is_word 120 88 c e refl refl) hex_word t is
        | inr is ↦ based_ties is_o is_octal_digit (λ c e. either is_word 111 79 c e refl refl) octal_word t is
      ]
      | inr is ↦ based_ties is_b is_binary_digit (λ c e. either is_word 98 66 c e refl refl) binary_word t is
    ]

pub number_ties : (t : List ℕ) → is_number t ≡ true → are_tied false t ≡ true
unfolding is_number
number_ties t h = elim (or_cases (is_decimal t || is_radix t || is_float t) (is_imaginary t) h) [
  | inl earlier ↦ elim (or_cases (is_decimal t || is_radix t) (is_float t) earlier) [
    | inl whole ↦ elim (or_cases (is_decimal t) (is_radix t) whole) [
      | inl decimal ↦ part_ties t (decimal_part t decimal)
      | inr radix ↦ radix_ties t radix
    ]
    | inr float ↦ float_ties t float
  ]
  | inr imaginary ↦ imaginary_ties t imaginary
]

-- ASCII

pub word_low : (c : ℕ) → is_word c ≡ true → c < 128
word_low c h = grind (arith, nat_tests)

tied_low : (c : ℕ) (following : Bool) → (is_word c || (following && is_sign c)) ≡ true → c < 128
tied_low c following h = elim (or_cases (is_word c) (following && is_sign c) h) [
  | inl word ↦ word_low c word
  | inr both ↦ let sign = (and_parts following (is_sign c) both).1 in grind (arith, nat_tests)
]

tied_ascii : (following : Bool) (t : List ℕ) → are_tied following t ≡ true → IsAscii t
tied_ascii following [] h i = omega arith
tied_ascii following (c ∷ t) h zero = tied_low c following (and_parts (is_word c || (following && is_sign c)) (are_tied (is_e c) t) h).0
tied_ascii following (c ∷ t) h (suc i) = tied_ascii (is_e c) t (and_parts (is_word c || (following && is_sign c)) (are_tied (is_e c) t) h).1 i

tied_scalars : (following : Bool) (t : List ℕ) → are_tied following t ≡ true → all_scalars t ≡ true
tied_scalars following [] h = refl
tied_scalars following (c ∷ t) h =
    let parts = and_parts (is_word c || (following && is_sign c)) (are_tied (is_e c) t) h in
    let low = tied_low c following parts.0 in
    and_from (scalar c) (all_scalars t) (low_scalar c (omega arith)) (tied_scalars (is_e c) t parts.1)

-- each character of a number is ASCII, and so a scalar
pub number_ascii : (t : List ℕ) → is_number t ≡ true → IsAscii t
number_ascii t h = tied_ascii false t (number_ties t h)

pub number_scalars : (t : List ℕ) → is_number t ≡ true → all_scalars t ≡ true
number_scalars t h = tied_scalars false t (number_ties t h)
