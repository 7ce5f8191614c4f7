-- Carries: the laws by tokens. On: the value of a number without a fault in an extent is one of the extent.
use Rattle.std.proofs.Common.{◌≡◌, refl, ℕ, ◌<◌, ◌≤◌, arith, List, [], Option, Some, None, Bool, true, false}
use Rattle.std.specs.Prelude.{◌^◌, ◌||◌, nat_le, nat_lt, if◌then◌else◌}
use Rattle.std.specs.Str.{encode_utf8_all}
use Rattle.std.specs.Float.Ieee.{binary64, fits}
use Rattle.std.proofs.Math.Nat.{pow-le-pow_right}
use Rattle.std.proofs.lemmas.Bool.{and_from, lt-ltb, ltb-true, leb-false}
use Rattle.pynumber.specs.Readings.{most_digits}
use Rattle.pynumber.specs.FloatValues.{float_value}
use Rattle.pynumber.specs.Laws.{IsDouble, is_unsigned}
use Rattle.pynumber.proofs.Callers.Law.{floats_are_lawful}
use Rattle.pylex_listing.specs.declared.kind.Kind.TheVariants as kinds
use Rattle.pytree_node.specs.declared.profiles.Extent.{Extent}
use Rattle.pytree_node.specs.declared.profiles.Extent.TheVariants.{Plain, Whole}
use Rattle.pytree_node.specs.Values.{Value, Int, Float, Imaginary}
use Rattle.pytoken.specs.declared.faults.TokenError.{TokenError}
use Rattle.pytoken.specs.declared.faults.TokenError.TheVariants as errors
use Rattle.pytoken.specs.NumberValues.{is_complex, is_real, whole_value, number_value, number_fault, too_large}
use Rattle.pytoken.specs.Terminals.{terminal_of}
use Rattle.pytree_fits.specs.Tests.{tests_in}
use Rattle.pytree_fits.specs.Literals.{has_integer, has_float, is_value}
use Rattle.pytree_fits.specs.Given.{is_number, passes}

-- ---- Limits.

not_past : (limit n : ℕ) → (if nat_le limit n then Some errors.IntegerTooLarge else None) ≡ None → nat_lt n limit ≡ true
not_past limit n h = by (nat_le limit n) (leb-false limit n) h
  where
    by : (b : Bool) → (b ≡ false → n < limit) → (if b then Some errors.IntegerTooLarge else None) ≡ None → nat_lt n limit ≡ true
    by true f h = absurd (cc)
    by false f h = lt-ltb n limit (f refl)

many_digits : 39 ≤ most_digits
unfolding most_digits
many_digits = omega arith

-- each whole number of the plain language is one of the whole one
pub in_whole : (extent : Extent) (n : ℕ) → has_integer extent n ≡ true → n < 10 ^ most_digits
in_whole Plain n h =
    let more : 10 ^ 39 ≤ 10 ^ most_digits = pow-le-pow_right (omega arith) many_digits in
    omega (arith, more, ltb-true n (2 ^ 128) h)
in_whole Whole n h = ltb-true n (10 ^ most_digits) h

-- ---- Doubles.

double_is : (text : List ℕ) → has_float Whole (float_value text) ≡ true
double_is text =
    let x = float_value text in
    let d : IsDouble x = floats_are_lawful.values text in
    and_from (fits binary64 x) (is_unsigned x) d.held d.unsigned

-- ---- The value of a number, and its fault.

abbrev value_by : Bool → Bool → List ℕ → Value
value_by complex real t = if complex then Imaginary (float_value t) else (if real then Float (float_value t) else Int (whole_value t))

abbrev plain_fault : Bool → Bool → List ℕ → Option TokenError
plain_fault complex real t = if complex then Some errors.Complex else (if real then Some errors.Float else too_large (2 ^ 128) t)

abbrev whole_fault : Bool → Bool → List ℕ → Option TokenError
whole_fault complex real t = if complex || real then None else too_large (10 ^ most_digits) t

class_by : (complex real : Bool) (t : List ℕ) → is_number (value_by complex real t) ≡ true
class_by true real t = refl
class_by false true t = refl
class_by false false t = refl

pub number_class : (t : List ℕ) → is_number (number_value t) ≡ true
unfolding number_value
number_class t = class_by (is_complex t) (is_real t) t

plain_value : (complex real : Bool) (t : List ℕ) → plain_fault complex real t ≡ None
    → is_value (tests_in Plain) (value_by complex real t) ≡ true
plain_value true real t h = absurd (cc)
plain_value false true t h = absurd (cc)
plain_value false false t h = not_past (2 ^ 128) (whole_value t) h

its_value : (complex real : Bool) (t : List ℕ) → whole_fault complex real t ≡ None
    → is_value (tests_in Whole) (value_by complex real t) ≡ true
its_value true real t h = double_is t
its_value false true t h = double_is t
its_value false false t h = not_past (10 ^ most_digits) (whole_value t) h

number_is_value : (extent : Extent) (t : List ℕ) → number_fault extent t ≡ None → is_value (tests_in extent) (number_value t) ≡ true
unfolding number_value number_fault
number_is_value Plain t h = plain_value (is_complex t) (is_real t) t h
number_is_value Whole t h = its_value (is_complex t) (is_real t) t h

-- ---- As tokens.

pub number_passes : (extent : Extent) (t : List ℕ) → number_fault extent (encode_utf8_all t) ≡ None
    → passes (tests_in extent) [] (terminal_of kinds.Number t) ≡ true
unfolding terminal_of
number_passes extent t h =
    let v = number_value (encode_utf8_all t) in
    and_from (is_number v) (is_value (tests_in extent) v) (number_class (encode_utf8_all t)) (number_is_value extent (encode_utf8_all t) h)
