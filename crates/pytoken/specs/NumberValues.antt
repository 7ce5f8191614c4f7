-- The number that the text of a NUMBER stands for, and what may be wrong with it by itself (reference 2.4.4 to 2.4.7). A number is ASCII,
-- so its
-- characters are its bytes.
use Rattle.std.specs.Prelude.{ℕ, ◌^◌, Bool, ◌&&◌, ◌||◌, ◌==◌, nat_le, List, [], ◌∷◌, drop, Option, Some, None}
use Rattle.std.specs.Prelude.{if◌then◌else◌}
use Rattle.std.specs.List.{list_any}
use Rattle.pynumber.specs.Readings.{written, most_digits}
use Rattle.pynumber.specs.FloatValues.{float_value}
use Rattle.pylex_lexeme.specs.Numbers.{is_x, is_o, is_b, is_e, is_j, is_point}
use Rattle.pytree_node.specs.Values.{Value, Int, Float, Imaginary}
use Rattle.pytree_node.specs.declared.profiles.Extent.{Extent}
use Rattle.pytree_node.specs.declared.profiles.Extent.TheVariants.{Plain, Whole}
use Rattle.pytoken.specs.declared.faults.TokenError.{TokenError}
use Rattle.pytoken.specs.declared.faults.TokenError.TheVariants as errors

-- integer    ::= decinteger | bininteger | octinteger | hexinteger
-- bininteger ::= "0" ("b" | "B") (["_"] bindigit)+
-- octinteger ::= "0" ("o" | "O") (["_"] octdigit)+
-- hexinteger ::= "0" ("x" | "X") (["_"] hexdigit)+
-- The base of a number's digits: `0x` is of hexadecimal ones, `0o` of octal ones, `0b` of binary ones, in either case.
abbrev pub radix_of : List ℕ → ℕ
radix_of [] = 10
radix_of (a ∷ []) = 10
radix_of (a ∷ b ∷ t) = if is_x b then 16 else (if is_o b then 8 else (if is_b b then 2 else 10))

-- its digits, with underscores: what stands after `0x`, `0o` or `0b`, or else all of it
abbrev pub digits_in : List ℕ → List ℕ
digits_in t = if radix_of t == 10 then t else drop 2 t

-- the value of a whole number
unfoldable pub whole_value : List ℕ → ℕ
whole_value t = written (radix_of t) (digits_in t)

-- imagnumber ::= (floatnumber | digitpart) ("j" | "J")
-- An imaginary number has a j: it is the last character, as no digit of any base is a j.
abbrev pub is_complex : List ℕ → Bool
is_complex t = list_any is_j t

-- floatnumber ::= pointfloat | exponentfloat
-- A decimal number with a point or an exponent; among the digits of another base an e is a digit.
abbrev pub is_real : List ℕ → Bool
is_real t = (radix_of t == 10) && list_any (λ c. is_point c || is_e c) t

-- the value of a number: of an imaginary one and of a float the nearest double
unfoldable pub number_value : List ℕ → Value
number_value t = if is_complex t then Imaginary (float_value t) else (if is_real t then Float (float_value t) else Int (whole_value t))

-- what is wrong with a whole number that is not below a limit
abbrev pub too_large : ℕ → List ℕ → Option TokenError
too_large limit t = if nat_le limit (whole_value t) then Some errors.IntegerTooLarge else None

-- What is wrong with a number that has no value in an extent of the language. In the plain one floats, imaginary numbers and whole numbers
-- of more than 128
-- bits have none; in the whole one those whole numbers have none that Python doesn't write.
unfoldable pub number_fault : Extent → List ℕ → Option TokenError
number_fault Plain t = if is_complex t then Some errors.Complex else (if is_real t then Some errors.Float else too_large (2 ^ 128) t)
number_fault Whole t = if is_complex t || is_real t then None else too_large (10 ^ most_digits) t
