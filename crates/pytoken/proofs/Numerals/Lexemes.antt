-- The texts that are written for numbers are NUMBER lexemes, and stand for them again.
-- Carries: what trees with floats, imaginary numbers and long integers need. On: Layouts, Parts, WholeTexts, Characters, Ends,
-- NumberClasses.
use Rattle.std.proofs.Common.{◌≡◌, ℕ, ◌<◌, Bool, true, false, List, [], ◌∷◌, length, refl, arith}
use Rattle.std.specs.Prelude.{◌||◌, ◌&&◌, codes}
use Rattle.std.specs.Float.Ieee.{Float}
use Rattle.std.specs.Str.{IsAscii, all_scalars}
use Rattle.std.proofs.lemmas.Bool.{and_from, and_parts, or_left, or_right}
use Rattle.pylex_lexeme.specs.Chars.{begins}
use Rattle.pylex_lexeme.specs.Numbers.{is_decimal_digit, is_decimal, is_radix, is_float, is_imaginary, is_number}
use Rattle.pynumber.specs.Decimals.{decimal_text}
use Rattle.pynumber.specs.FloatTexts.{float_text, float_source, imaginary_source}
use Rattle.pynumber.specs.Laws.{IsDouble}
use Rattle.pytoken.specs.NumberValues.{whole_value, is_complex, is_real}
use Rattle.pytoken.specs.Numerals.{ends, is_digit_or_j, is_numeral}
use Rattle.pytoken.proofs.NumberClasses.{imaginary_complex, float_not_complex, float_real, decimal_not_complex, decimal_not_real}
use Rattle.pytoken.proofs.Numerals.Characters.{number_ascii, number_scalars}
use Rattle.pytoken.proofs.Numerals.Ends.{ends_append, begins_append, digits_begin, digits_close, parts_begin, parts_end}
use Rattle.pytoken.proofs.Numerals.Parts.{HasParts, parts_float, parts_imaginary}
use Rattle.pytoken.proofs.Numerals.Layouts.{end_of, float_parts, infinity_parts}
use Rattle.pytoken.proofs.Numerals.WholeTexts.{text_decimal, text_digits, text_whole}

decimal_number : (t : List ℕ) → is_decimal t ≡ true → is_number t ≡ true
unfolding is_number
decimal_number t h =
    or_left (is_decimal t || is_radix t || is_float t) (is_imaginary t)
    (or_left (is_decimal t || is_radix t) (is_float t) (or_left (is_decimal t) (is_radix t) h))

float_number : (t : List ℕ) → is_float t ≡ true → is_number t ≡ true
unfolding is_number
float_number t h =
    or_left (is_decimal t || is_radix t || is_float t) (is_imaginary t) (or_right (is_decimal t || is_radix t) (is_float t) h)

imaginary_number : (t : List ℕ) → is_imaginary t ≡ true → is_number t ≡ true
unfolding is_number
imaginary_number t h = or_right (is_decimal t || is_radix t || is_float t) (is_imaginary t) h

source_parts : (x : Float) → IsDouble x → HasParts true (float_source x)
source_parts x double = float_parts true x (codes "1e309") double.unsigned (infinity_parts true)

-- what stands before the j of an imaginary number
abbrev before_j : Float → List ℕ
before_j x = float_text x (end_of false) (codes "1e309")

before_parts : (x : Float) → IsDouble x → HasParts false (before_j x)
before_parts x double = float_parts false x (codes "1e309") double.unsigned (infinity_parts false)

-- What class of lexemes each is of

-- a double's literal is a float literal, and no imaginary one
pub float_lexeme : (x : Float) → IsDouble x →
    (is_float (float_source x) ≡ true) × ((is_number (float_source x) ≡ true)
    × ((is_real (float_source x) ≡ true) × (is_complex (float_source x) ≡ false)))
float_lexeme x double =
    let t = float_source x in
    let h = parts_float t (source_parts x double) in
    (h, (float_number t h, (float_real t h, float_not_complex t h)))

-- the literal of an imaginary number
pub imaginary_lexeme : (x : Float) → IsDouble x →
    (is_imaginary (imaginary_source x) ≡ true) × ((is_number (imaginary_source x) ≡ true) × (is_complex (imaginary_source x) ≡ true))
imaginary_lexeme x double =
    let t = imaginary_source x in
    let h = parts_imaginary false (before_j x) (before_parts x double) in
    (h, (imaginary_number t h, imaginary_complex t h))

-- a whole number of any size is a decimal literal that stands for it
pub whole_lexeme : (n : ℕ) → (is_decimal (decimal_text n) ≡ true) × ((is_number (decimal_text n) ≡ true)
    × ((whole_value (decimal_text n) ≡ n) × ((is_real (decimal_text n) ≡ false) × (is_complex (decimal_text n) ≡ false))))
whole_lexeme n =
    let t = decimal_text n in
    let h = text_decimal n in
    (h, (decimal_number t h, (text_whole n, (decimal_not_real t h, decimal_not_complex t h))))

-- What characters stand in each

-- a number of ASCII, that begins with a digit and ends in one or in a j
pub record IsNumeral (t : List ℕ) : Type 0 where
  pub number : is_number t ≡ true
  pub first : begins is_decimal_digit t ≡ true
  pub last : ends is_digit_or_j t ≡ true
  pub some : 0 < length t
  pub ascii : IsAscii t
  pub scalars : all_scalars t ≡ true
  -- the three tests in one
  pub test : is_numeral t ≡ true

some_of_first : (f : ℕ → Bool) (t : List ℕ) → begins f t ≡ true → 0 < length t
some_of_first f [] h = cc
some_of_first f (c ∷ t) h = omega arith

numeral : (t : List ℕ) → is_number t ≡ true → begins is_decimal_digit t ≡ true → ends is_digit_or_j t ≡ true → IsNumeral t
numeral t h first last = record {
  number = h;
  first = first;
  last = last;
  some = some_of_first is_decimal_digit t first;
  ascii = number_ascii t h;
  scalars = number_scalars t h;
  test = and_from (is_number t) (begins is_decimal_digit t && ends is_digit_or_j t) h
      (and_from (begins is_decimal_digit t) (ends is_digit_or_j t) first last);
}

-- what the test tells
pub numeral_of : (t : List ℕ) → is_numeral t ≡ true → IsNumeral t
numeral_of t h =
    let parts = and_parts (is_number t) (begins is_decimal_digit t && ends is_digit_or_j t) h in
    let edges = and_parts (begins is_decimal_digit t) (ends is_digit_or_j t) parts.1 in
    numeral t parts.0 edges.0 edges.1

pub float_numeral : (x : Float) → IsDouble x → IsNumeral (float_source x)
float_numeral x double =
    let t = float_source x in
    let parts = source_parts x double in
    numeral t (float_lexeme x double).1.0 (parts_begin true t parts) (parts_end true t parts)

pub imaginary_numeral : (x : Float) → IsDouble x → IsNumeral (imaginary_source x)
imaginary_numeral x double =
    let t = before_j x in
    let first = parts_begin false t (before_parts x double) in
    numeral (imaginary_source x) (imaginary_lexeme x double).1.0 (begins_append is_decimal_digit t (codes "j") first)
    (ends_append is_digit_or_j t (codes "j") refl)

pub whole_numeral : (n : ℕ) → IsNumeral (decimal_text n)
whole_numeral n =
    let t = decimal_text n in
    numeral t (whole_lexeme n).1.0 (digits_begin t (text_digits n)) (digits_close t (text_digits n))
