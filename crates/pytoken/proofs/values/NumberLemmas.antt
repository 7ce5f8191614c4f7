-- Carries: whole, is_too_large, integer. On: a whole number byte by byte.
use Rattle.std.proofs.Common.{◌≡◌, ℕ, ◌+◌, ◌*◌, ◌^◌, ◌<◌, ◌≤◌, Bool, true, false, not, List, [], ◌∷◌, length, drop, get_or, refl, sym, ap}
use Rattle.std.proofs.Common.{◌∙◌, inl, inr, arith}
use Rattle.std.proofs.Common.{ap₂, Option, Some, None, is_some, mul-le-mul_left}
use Rattle.std.specs.Prelude.{◌==◌, nat_le, filter, MatchOption, if◌then◌else◌}
use Rattle.std.specs.Char.{digit_value}
use Rattle.std.specs.Str.Parse.{digits_value_after}
use Rattle.std.proofs.lemmas.Bool.{cases_Bool, leb-true, leb-false, le-leb, lt-leb}
use Rattle.std.proofs.lemmas.List.{at_drop_more, drop_all}
use Rattle.pynumber.specs.Readings.{written, is_no_underscore, most_digits}
use Rattle.pytree_node.specs.declared.profiles.Extent.{Extent}
use Rattle.pytree_node.specs.declared.profiles.Extent.TheVariants.{Plain, Whole}
use Rattle.pytoken.specs.NumberValues.{radix_of, digits_in, whole_value}
use Rattle.pytoken.specs.Inner.Readings.{one_more, whole_below, limit_of}
use Rattle.pytoken.proofs.NumberKinds.{in_both}

-- The value of digits, one after another

-- the value with the digits of a text after it
abbrev pub value_on : ℕ → ℕ → List ℕ → ℕ
value_on radix value t = digits_value_after radix value (filter is_no_underscore t)

written_is : (radix : ℕ) (t : List ℕ) → value_on radix 0 t ≡ written radix t
unfolding written
written_is radix t = refl

-- a value with one more digit
abbrev more_of : ℕ → ℕ → ℕ → ℕ
more_of radix value c = if c == 95 then value else value * radix + digit_value c

value_more : (radix value c : ℕ) (t : List ℕ) → value_on radix (more_of radix value c) t ≡ value_on radix value (c ∷ t)
value_more radix value c t = elim (cases_Bool (c == 95)) [
  | inl line ↦ rw line refl
  | inr digit ↦ rw digit refl
]

value_next : (radix value i : ℕ) (bs : List ℕ) → i < length bs
    → value_on radix (more_of radix value (get_or bs i 0)) (drop (i + 1) bs) ≡ value_on radix value (drop i bs)
value_next radix value i bs within =
    value_more radix value (get_or bs i 0) (drop (i + 1) bs) ∙ sym (at_drop_more (value_on radix value) bs i 0 within)

grows : (radix n : ℕ) (ds : List ℕ) → 1 ≤ radix → n ≤ digits_value_after radix n ds
grows radix n [] least = omega arith
grows radix n (d ∷ ds) least =
    let product = mul-le-mul_left n least in
    omega (arith, product, grows radix (n * radix + digit_value d) ds least)

past : (radix : ℕ) (t : List ℕ) → 2 ^ 128 ≤ written radix t → whole_below radix t ≡ None
past radix t large = let test : nat_le (2 ^ 128) (written radix t) ≡ true = le-leb (2 ^ 128) (written radix t) large in rw test refl

-- a digit was one too many
pub read_past : (radix value i : ℕ) (bs : List ℕ) → 2 ≤ radix → i < length bs → one_more radix value (get_or bs i 0) ≡ None
    → value_on radix value (drop i bs) ≡ value_on radix 0 bs → whole_below radix bs ≡ None
read_past radix value i bs least within e so_far =
    let c = get_or bs i 0 in
    elim (cases_Bool (nat_le (2 ^ 128) (more_of radix value c))) [
      | inl large ↦
          let on = value_next radix value i bs within ∙ so_far ∙ written_is radix bs in
          let more = grows radix (more_of radix value c) (filter is_no_underscore (drop (i + 1) bs)) (omega arith) in
          past radix bs (omega (arith, leb-true (2 ^ 128) (more_of radix value c) large, more, on))
      | inr below ↦ absurd (let some : Some (more_of radix value c) ≡ None = rw below at e in cc)
    ]

-- all digits were read
pub read_all : (radix value i : ℕ) (bs : List ℕ) → value < 2 ^ 128 → length bs ≤ i → value_on radix value (drop i bs) ≡ value_on radix 0 bs
    → Some value ≡ whole_below radix bs
read_all radix value i bs fits end so_far =
    let same : value ≡ written radix bs = sym (ap (value_on radix value) (drop_all i bs end)) ∙ so_far ∙ written_is radix bs in
    let small : nat_le (2 ^ 128) (written radix bs) ≡ false = lt-leb (2 ^ 128) (written radix bs) (omega (arith, same)) in
    rw small (ap (λ (n : ℕ). Some n) same)

-- The value of a whole number

pub whole_is : (t : List ℕ) → written (radix_of t) (digits_in t) ≡ whole_value t
unfolding whole_value
whole_is t = refl

-- the value of a number's digits, by what was read of its base and digits
module _ (t ds : List ℕ) (radix : ℕ) (of_radix : radix ≡ radix_of t) (of_digits : ds ≡ digits_in t) where
  pub digits_are : written radix ds ≡ whole_value t
  digits_are = ap₂ (λ (r : ℕ) (xs : List ℕ). written r xs) of_radix of_digits ∙ whole_is t

  pub below_some : (v : ℕ) → Some v ≡ whole_below radix ds → (v ≡ whole_value t) × (whole_value t < 2 ^ 128)
  below_some v e =
      let n = written radix ds in
      elim (cases_Bool (nat_le (2 ^ 128) n)) [
        | inl large ↦ absurd (let none : Some v ≡ None = rw large at e in cc)
        | inr small ↦
            let some : Some v ≡ Some n = rw small at e in
            let same : v ≡ n = cc in
            (same ∙ digits_are, omega (arith, leb-false (2 ^ 128) n small, digits_are))
      ]

  pub below_none : None ≡ whole_below radix ds → 2 ^ 128 ≤ whole_value t
  below_none e =
      let n = written radix ds in
      elim (cases_Bool (nat_le (2 ^ 128) n)) [
        | inl large ↦ omega (arith, leb-true (2 ^ 128) n large, digits_are)
        | inr small ↦ absurd (let some : None ≡ Some n = rw small at e in cc)
      ]

-- what was read of a number says whether it is past an extent's
module _ (extent : Extent) (t ds : List ℕ) (radix : ℕ) (of_radix : radix ≡ radix_of t) (of_digits : ds ≡ digits_in t) where
  pub within : (o : Option ℕ) → o ≡ whole_below radix ds → true ≡ is_some o → false ≡ nat_le (limit_of extent) (whole_value t)
  within (Some v) e some = sym (in_both extent (whole_value t) (below_some t ds radix of_radix of_digits v e).1)
  within None e some = absurd cc

  pub past_plain : (o : Option ℕ) → o ≡ whole_below radix ds → false ≡ is_some o → extent ≡ Plain
      → true ≡ nat_le (limit_of extent) (whole_value t)
  past_plain (Some v) e none is = absurd cc
  past_plain None e none is =
      let large = le-leb (2 ^ 128) (whole_value t) (below_none t ds radix of_radix of_digits e) in
      sym (ap (λ (x : Extent). nat_le (limit_of x) (whole_value t)) is ∙ large)

  pub past_whole : (o : Option ℕ) (none : Bool) → is_some o ≡ not none
      → MatchOption o (10 ^ most_digits ≤ written radix ds) (λ n. (n ≡ written radix ds) × (n < 10 ^ most_digits))
      → extent ≡ Whole → none ≡ nat_le (limit_of extent) (whole_value t)
  past_whole (Some n) true e read is = absurd cc
  past_whole (Some n) false e read is =
      let same = digits_are t ds radix of_radix of_digits in
      let small = lt-leb (10 ^ most_digits) (whole_value t) (omega (arith, same, read.0, read.1)) in
      sym (ap (λ (x : Extent). nat_le (limit_of x) (whole_value t)) is ∙ small)
  past_whole None false e read is = absurd cc
  past_whole None true e read is =
      let same = digits_are t ds radix of_radix of_digits in
      let large = le-leb (10 ^ most_digits) (whole_value t) (omega (arith, same, read)) in
      sym (ap (λ (x : Extent). nat_le (limit_of x) (whole_value t)) is ∙ large)

-- the value that was read of a number
module _ (t ds : List ℕ) (radix : ℕ) (of_radix : radix ≡ radix_of t) (of_digits : ds ≡ digits_in t) where
  pub read_below : (v : ℕ) (o : Option ℕ) → o ≡ whole_below radix ds → o ≡ Some v → v ≡ whole_value t
  read_below v o e is = (below_some t ds radix of_radix of_digits v (sym is ∙ e)).0

  pub not_past : (o : Option ℕ) → whole_value t < 10 ^ most_digits
      → MatchOption o (10 ^ most_digits ≤ written radix ds) (λ n. (n ≡ written radix ds) × (n < 10 ^ most_digits)) → o ≡ None → ⊥
  not_past (Some n) small read is = cc
  not_past None small read is = omega (arith, digits_are t ds radix of_radix of_digits)

  pub read_whole : (n : ℕ) (o : Option ℕ)
      → MatchOption o (10 ^ most_digits ≤ written radix ds) (λ n. (n ≡ written radix ds) × (n < 10 ^ most_digits))
      → o ≡ Some n → n ≡ whole_value t
  read_whole n (Some m) read is = let same : m ≡ n = cc in sym same ∙ read.0 ∙ digits_are t ds radix of_radix of_digits
  read_whole n None read is = absurd cc
