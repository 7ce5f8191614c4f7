-- Carries: number_fault, constant_value, number_terminal, come_back, faults_are_by_class,
-- extents_differ_in_numbers. On: the value and the fault of a number by its kind, and the limits of
-- whole numbers.
use Rattle.std.proofs.Common.{◌≡◌, ℕ, ◌^◌, ◌<◌, ◌≤◌, true, false, List, refl, sym, ◌∙◌, inl, inr, arith, Some, None}
use Rattle.std.specs.Prelude.{nat_le}
use Rattle.std.proofs.Math.Nat.{pow-le-pow_right}
use Rattle.std.proofs.lemmas.Bool.{cases_Bool, leb-false, lt-leb}
use Rattle.pynumber.specs.Readings.{most_digits}
use Rattle.pynumber.specs.FloatValues.{float_value}
use Rattle.pytree_node.specs.Values.{Int, Float, Imaginary}
use Rattle.pytree_node.specs.declared.profiles.Extent.{Extent}
use Rattle.pytree_node.specs.declared.profiles.Extent.TheVariants.{Plain, Whole}
use Rattle.pytoken.specs.declared.faults.TokenError.TheVariants as errors
use Rattle.pytoken.specs.NumberValues.{is_complex, is_real, whole_value, number_value, number_fault}
use Rattle.pytoken.specs.Inner.Readings.{limit_of, in_plain}

-- The limits

many_digits : 39 ≤ most_digits
unfolding most_digits
many_digits = omega arith

pub whole_limit : 2 ^ 128 ≤ 10 ^ most_digits
whole_limit = let more : 10 ^ 39 ≤ 10 ^ most_digits = pow-le-pow_right (omega arith) many_digits in omega (arith, more)

least_limit : (extent : Extent) → 2 ^ 128 ≤ limit_of extent
least_limit Plain = omega arith
least_limit Whole = whole_limit

-- a whole number below 2^128 is in either extent
pub in_both : (extent : Extent) (n : ℕ) → n < 2 ^ 128 → nat_le (limit_of extent) n ≡ false
in_both extent n small = lt-leb (limit_of extent) n (omega (arith, least_limit extent, small))

-- The fault of a number by its kind

pub fault_complex : (extent : Extent) (t : List ℕ) → is_complex t ≡ true → number_fault extent t ≡ in_plain extent errors.Complex
unfolding number_fault
fault_complex Plain t complex = rw complex refl
fault_complex Whole t complex = rw complex refl

pub fault_real : (extent : Extent) (t : List ℕ) → is_complex t ≡ false → is_real t ≡ true
    → number_fault extent t ≡ in_plain extent errors.Float
unfolding number_fault
fault_real Plain t complex real = rw (complex, real) refl
fault_real Whole t complex real = rw (complex, real) refl

pub fault_large : (extent : Extent) (t : List ℕ) → is_complex t ≡ false → is_real t ≡ false
    → nat_le (limit_of extent) (whole_value t) ≡ true
    → number_fault extent t ≡ Some errors.IntegerTooLarge
unfolding number_fault
fault_large Plain t complex real large = rw (complex, real, large) refl
fault_large Whole t complex real large = rw (complex, real, large) refl

pub fault_none : (extent : Extent) (t : List ℕ) → is_complex t ≡ false → is_real t ≡ false
    → nat_le (limit_of extent) (whole_value t) ≡ false
    → number_fault extent t ≡ None
unfolding number_fault
fault_none Plain t complex real small = rw (complex, real, small) refl
fault_none Whole t complex real small = rw (complex, real, small) refl

-- The value of a number by its kind

pub value_complex : (t : List ℕ) → is_complex t ≡ true → number_value t ≡ Imaginary (float_value t)
unfolding number_value
value_complex t complex = rw complex refl

pub value_real : (t : List ℕ) → is_complex t ≡ false → is_real t ≡ true → number_value t ≡ Float (float_value t)
unfolding number_value
value_real t complex real = rw (complex, real) refl

pub value_whole : (t : List ℕ) → is_complex t ≡ false → is_real t ≡ false → number_value t ≡ Int (whole_value t)
unfolding number_value
value_whole t complex real = rw (complex, real) refl

-- a whole number without a fault is below the limit
pub below_limit : (extent : Extent) (t : List ℕ) → is_complex t ≡ false → is_real t ≡ false → number_fault extent t ≡ None
    → whole_value t < limit_of extent
below_limit extent t complex real none = elim (cases_Bool (nat_le (limit_of extent) (whole_value t))) [
  | inl large ↦ absurd (let some = sym (fault_large extent t complex real large) ∙ none in cc)
  | inr small ↦ omega (arith, leb-false (limit_of extent) (whole_value t) small)
]

-- what has no fault in an extent has none in the whole language
pub whole_faultless : (extent : Extent) (t : List ℕ) → number_fault extent t ≡ None → number_fault Whole t ≡ None
whole_faultless extent t none = elim (cases_Bool (is_complex t)) [
  | inl complex ↦ fault_complex Whole t complex
  | inr no_j ↦ elim (cases_Bool (is_real t)) [
    | inl real ↦ fault_real Whole t no_j real
    | inr whole ↦ of_whole extent no_j whole none
  ]
]
  where
    of_whole : (extent : Extent) → is_complex t ≡ false → is_real t ≡ false → number_fault extent t ≡ None → number_fault Whole t ≡ None
    of_whole Whole no_j whole none = none
    of_whole Plain no_j whole none =
        let small = below_limit Plain t no_j whole none in fault_none Whole t no_j whole (in_both Whole (whole_value t) small)
