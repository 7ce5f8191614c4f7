-- Carries: short_value, number_fault, number_terminal. On: numbers of decimal digits alone.
use Rattle.std.proofs.Common.{◌≡◌, ℕ, ◌≤◌, Bool, true, false, List, [], ◌∷◌, refl, sym, ap}
use Rattle.std.proofs.Common.{◌∙◌, arith}
use Rattle.std.proofs.Common.{Option, Some, None, is_some}
use Rattle.std.specs.Prelude.{◌==◌, ◌&&◌, ◌||◌, nat_le, filter, IfSome}
use Rattle.std.specs.List.{list_all, list_any}
use Rattle.std.specs.Str.Parse.{digits_value}
use Rattle.std.proofs.lemmas.Bool.{and_parts, leb-true, ne_eqb, and_right}
use Rattle.std.proofs.lemmas.Bool.Decides.{nat_tests}
use Rattle.pynumber.specs.Readings.{written, is_no_underscore}
use Rattle.pylex_lexeme.specs.Numbers.{is_j, is_point, is_e, is_x, is_o, is_b}
use Rattle.pytree_node.specs.Values.{Int}
use Rattle.pytree_node.specs.declared.profiles.Extent.{Extent}
use Rattle.pytoken.specs.NumberValues.{radix_of, is_complex, is_real, whole_value, number_value, number_fault}
use Rattle.pytoken.specs.Inner.Readings.{is_decimal_digit, IsShort}
use Rattle.pytoken.proofs.NumberKinds.{in_both, fault_none, value_whole}

record Digit (c : ℕ) : Type 0 where
  least : 48 ≤ c
  most : c ≤ 57

digit : (c : ℕ) → is_decimal_digit c ≡ true → Digit c
digit c is =
    let parts = and_parts (nat_le 48 c) (nat_le c 57) is in
    record { least = omega (arith, leb-true 48 c parts.0); most = omega (arith, leb-true c 57 parts.1) }

none_of : (p : ℕ → Bool) → ((c : ℕ) → Digit c → p c ≡ false) → (t : List ℕ) → list_all is_decimal_digit t ≡ true → list_any p t ≡ false
none_of p fails [] all = refl
none_of p fails (c ∷ t) all =
    let parts = and_parts (is_decimal_digit c) (list_all is_decimal_digit t) all in
    let here = fails c (digit c parts.0) in
    rw here (none_of p fails t parts.1)

no_lines : (t : List ℕ) → list_all is_decimal_digit t ≡ true → filter is_no_underscore t ≡ t
no_lines [] all = refl
no_lines (c ∷ t) all =
    let parts = and_parts (is_decimal_digit c) (list_all is_decimal_digit t) all in
    let d = digit c parts.0 in
    let other = ne_eqb c 95 (λ e. omega (arith, d.most, e)) in
    rw other (ap (λ (x : List ℕ). c ∷ x) (no_lines t parts.1))

decimal : (t : List ℕ) → list_all is_decimal_digit t ≡ true → radix_of t ≡ 10
decimal [] all = refl
decimal (a ∷ []) all = refl
decimal (a ∷ b ∷ t) all =
    let rest = (and_parts (is_decimal_digit a) (list_all is_decimal_digit (b ∷ t)) all).1 in
    let d = digit b (and_parts (is_decimal_digit b) (list_all is_decimal_digit t) rest).0 in
    let least = d.least in
    let most = d.most in
    let x : is_x b ≡ false = grind (arith, nat_tests) in
    let o : is_o b ≡ false = grind (arith, nat_tests) in
    let b2 : is_b b ≡ false = grind (arith, nat_tests) in
    rw (x, o, b2) refl

no_j : (c : ℕ) → Digit c → is_j c ≡ false
no_j c d = let least = d.least in let most = d.most in grind (arith, nat_tests)

no_fraction : (c : ℕ) → Digit c → (is_point c || is_e c) ≡ false
no_fraction c d = let least = d.least in let most = d.most in grind (arith, nat_tests)

not_complex : (t : List ℕ) → list_all is_decimal_digit t ≡ true → is_complex t ≡ false
not_complex t all = none_of is_j no_j t all

not_real : (t : List ℕ) → list_all is_decimal_digit t ≡ true → is_real t ≡ false
not_real t all = ap (λ (b : Bool). (radix_of t == 10) && b) (none_of (λ c. is_point c || is_e c) no_fraction t all)
    ∙ and_right (radix_of t == 10) false refl

digits_written : (t : List ℕ) → list_all is_decimal_digit t ≡ true → written 10 t ≡ digits_value 10 t
unfolding written
digits_written t all = ap (digits_value 10) (no_lines t all)

-- what decimal digits alone are worth
short_whole : (t : List ℕ) (value : ℕ) → IsShort t value → whole_value t ≡ value
unfolding whole_value
short_whole t value is =
    let ten = decimal t is.digits in
    rw ten (digits_written t is.digits ∙ sym is.worth)

pub short_faultless : (extent : Extent) (t : List ℕ) (value : ℕ) → IsShort t value → number_fault extent t ≡ None
short_faultless extent t value is =
    let worth = short_whole t value is in
    fault_none extent t (not_complex t is.digits) (not_real t is.digits) (in_both extent (whole_value t) (omega (arith, worth, is.fits)))

pub short_is : (t : List ℕ) (value : ℕ) → IsShort t value → number_value t ≡ Int value
short_is t value is =
    value_whole t (not_complex t is.digits) (not_real t is.digits) ∙ ap (λ (n : ℕ). Int n) (short_whole t value is)

-- what was read as decimal digits alone has no fault
pub read_faultless : (extent : Extent) (t : List ℕ) (o : Option ℕ) → IfSome o (λ v. IsShort t v) → true ≡ is_some o
    → number_fault extent t ≡ None
read_faultless extent t (Some v) is some = short_faultless extent t v is
read_faultless extent t None is some = absurd cc
