-- Digits at the front of a text, one after another.
--
-- Carries: escapes::digits.
use Rattle.std.proofs.Common.{◌≡◌, ℕ, zero, suc, ◌+◌, ◌*◌, ◌^◌, ◌<◌, ◌≤◌, List, [], ◌∷◌, length, take, drop, refl, sym, ap, ap₂, ◌∙◌, arith}
use Rattle.std.proofs.Common.{mul-le-mul_left, inl, inr, Some, None}
use Rattle.std.specs.Prelude.{nat_lt}
use Rattle.std.specs.Char.{digit_value, is_digit}
use Rattle.std.specs.Str.Parse.{digits_value_after}
use Rattle.std.proofs.Math.Nat.{pow-suc, pow-le-pow_right}
use Rattle.std.proofs.lemmas.Bool.{cases_Bool, ltb-true}
use Rattle.std.proofs.lemmas.List.Sums.{take_while-cons}
use Rattle.pytoken.specs.Escapes.{digits_at_front}
use Rattle.pytoken.specs.Inner.Readings.{first_digit}

-- a digit stands at the front, and others may after it
pub record Further (radix k d : ℕ) (t : List ℕ) : Type 0 where
  pub below : d < radix
  pub value : (n : ℕ) → digits_value_after radix n (digits_at_front radix (suc k) t)
      ≡ digits_value_after radix (n * radix + d) (digits_at_front radix k (drop 1 t))
  pub count : length (digits_at_front radix (suc k) t) ≡ suc (length (digits_at_front radix k (drop 1 t)))
  pub following : drop (length (digits_at_front radix (suc k) t)) t ≡ drop (length (digits_at_front radix k (drop 1 t))) (drop 1 t)

pub further : (radix k d : ℕ) (t : List ℕ) → first_digit radix t ≡ Some d → Further radix k d t
further radix k d [] e = absurd (cc)
further radix k d (c ∷ cs) e = elim (cases_Bool (nat_lt (digit_value c) radix)) [
  | inl digit ↦
      let same : Some (digit_value c) ≡ Some d = rw digit at e in
      let is : digit_value c ≡ d = cc in
      let front : digits_at_front radix (suc k) (c ∷ cs) ≡ c ∷ digits_at_front radix k cs =
      take_while-cons (λ x. is_digit x radix) c (take k cs)
      ∙ (rw digit refl) in
      record {
        below = omega (arith, is, ltb-true (digit_value c) radix digit);
        value = λ n. ap (digits_value_after radix n) front
            ∙ ap (λ (v : ℕ). digits_value_after radix (n * radix + v) (digits_at_front radix k cs)) is;
        count = ap length front;
        following = ap (λ (ds : List ℕ). drop (length ds) (c ∷ cs)) front;
      }
  | inr other ↦ absurd (let none : None ≡ Some d = rw other at e in cc)
]

pub no_digits : (radix k : ℕ) (t : List ℕ) → first_digit radix t ≡ None → digits_at_front radix k t ≡ []
no_digits radix zero t e = refl
no_digits radix (suc k) [] e = refl
no_digits radix (suc k) (c ∷ cs) e = elim (cases_Bool (nat_lt (digit_value c) radix)) [
  | inl digit ↦ absurd (let some : Some (digit_value c) ≡ None = rw digit at e in cc)
  | inr other ↦ take_while-cons (λ x. is_digit x radix) c (take k cs) ∙ (rw other refl)
]

-- so many digits of those at the front of a text have been read, and their
-- value; `left` more may follow
pub record Far (radix most count value : ℕ) (t start : List ℕ) : Type 0 where
  pub left : ℕ
  pub whole : count + left ≡ most
  pub values : digits_value_after radix value (digits_at_front radix left t) ≡ digits_value_after radix 0 (digits_at_front radix most start)
  pub counts : count + length (digits_at_front radix left t) ≡ length (digits_at_front radix most start)
  pub following : drop (length (digits_at_front radix left t)) t ≡ drop (length (digits_at_front radix most start)) start
  pub bound : value < 16 ^ count

pub far_start : (radix most : ℕ) (t : List ℕ) → Far radix most 0 0 t t
far_start radix most t = record {
  left = most;
  whole = omega arith;
  values = refl;
  counts = omega arith;
  following =
      refl;
  bound = omega arith;
}

times : (value radix : ℕ) → radix ≤ 16 → value * radix ≤ value * 16
times value radix high = mul-le-mul_left value high

pub far_fits : (radix most count value d : ℕ) (t start : List ℕ) → Far radix most count value t start → count < most
    → most ≤ 8 → radix ≤ 16 →
    first_digit radix t ≡ Some d
    → (value * radix < 2 ^ 32) × (value * radix + d < 2 ^ 32)
far_fits radix most count value d t start far more small high e =
    let f = further radix 0 d t e in
    let power : 16 ^ count ≤ 16 ^ 7 = pow-le-pow_right {n = 16} (omega arith) {i = count} {j = 7} (omega (arith, more, small)) in
    let product = times value radix high in
    (omega (arith, far.bound, power, product), omega (arith, far.bound, power, product, f.below))

pub far_on : (radix most count value d : ℕ) (t start new : List ℕ) → Far radix most count value t start → count < most → radix ≤ 16 →
    first_digit radix t ≡ Some d → new ≡ drop 1 t
    → Far radix most (count + 1) (value * radix + d) new start
far_on radix most count value d t start new far more high e cut = go far.left refl
  where
    go : (k : ℕ) → far.left ≡ k → Far radix most (count + 1) (value * radix + d) new start
    go zero is = absurd (omega (arith, is, far.whole))
    go (suc k) is =
        let f = further radix k d t e in
        let power = pow-suc 16 count in
        let product = times value radix high in
        let one : 16 ^ (count + 1) ≡ 16 ^ suc count = ap (λ (n : ℕ). 16 ^ n) (omega arith) in
        let here : digits_at_front radix (suc k) t ≡ digits_at_front radix far.left t =
        ap (λ (n : ℕ). digits_at_front radix n t) (sym is) in
        let there : digits_at_front radix k new ≡ digits_at_front radix k (drop 1 t) = ap (digits_at_front radix k) cut in
        record {
          left = k;
          whole = omega (arith, is, far.whole);
          values =
              ap (digits_value_after radix (value * radix + d)) there ∙ sym (f.value value)
              ∙ ap (digits_value_after radix value) here ∙ far.values;
          counts = omega (arith, ap length there, f.count, ap length here, far.counts);
          following = ap₂ (λ (ds u : List ℕ). drop (length ds) u) there cut ∙ sym f.following
              ∙ ap (λ (ds : List ℕ). drop (length ds) t) here ∙ far.following;
          bound = omega (arith, far.bound, power, product, f.below, one);
        }

-- all digits have been read
pub far_end : (radix most count value : ℕ) (t start : List ℕ) → (far : Far radix most count value t start)
    → digits_at_front radix far.left t ≡ []
    → (count ≡ length (digits_at_front radix most start)) × (value ≡ digits_value_after radix 0 (digits_at_front radix most start)) ×
    (t ≡ drop (length (digits_at_front radix most start)) start)
far_end radix most count value t start far none = (
  omega (arith, ap length none, far.counts),
  sym (ap (digits_value_after radix value) none) ∙ far.values,
  sym (ap (λ (ds : List ℕ). drop (length ds) t) none) ∙ far.following,
)

pub none_wanted : (radix most count value : ℕ) (t start : List ℕ) → (far : Far radix most count value t start) → most ≤ count →
    digits_at_front radix far.left t ≡ []
none_wanted radix most count value t start far all =
    let zero : far.left ≡ 0 = omega (arith, far.whole, all) in ap (λ (n : ℕ). digits_at_front radix n t) zero
