-- What stands after the last element that passes a test.
--
-- Carries: last_line.
use Rattle.std.proofs.Common.{◌≡◌, ℕ, ◌+◌, ◌-◌, ◌<◌, ◌≤◌, Bool, true, false, not, List, length, get_or, drop, ap, arith, zero-le, Option}
use Rattle.std.proofs.Common.{Some, None}
use Rattle.std.proofs.lemmas.Bool.{false_from_ne_true, eqb-true}
use Rattle.memchr.specs.Find.{IsLastByte, is_byte}
use Rattle.pysource.specs.Places.{is_lf}
use Rattle.std.specs.List.{after_last, suffix_len}
use Rattle.std.proofs.lemmas.List.Sums.{suffix_len_is}

-- after the last place that passes
pub after_last_at : (p : ℕ → Bool) (xs : List ℕ) (i : ℕ) → i < length xs → p (get_or xs i 0) ≡ true
    → ((k : ℕ) → i + 1 ≤ k → k < length xs → p (get_or xs k 0) ≡ false) → after_last p xs ≡ drop (i + 1) xs
after_last_at p xs i fits here later =
    let e = suffix_len_is (λ x. not (p x)) xs (i + 1) 0 (omega arith) (λ k l h. ap not (later k l h)) (λ _. let at : i + 1 - 1 ≡ i =
    omega arith in rw at (ap not here)) in
    let back : length xs - suffix_len (λ x. not (p x)) xs ≡ i + 1 = omega (arith, e) in
    ap (λ n. drop n xs) back

-- the whole where no place passes
pub after_last_none : (p : ℕ → Bool) (xs : List ℕ) → ((k : ℕ) → k < length xs → p (get_or xs k 0) ≡ false) → after_last p xs ≡ xs
after_last_none p xs none =
    let e = suffix_len_is (λ x. not (p x)) xs 0 0 (omega arith) (λ k l h. ap not (none k h)) (λ l. absurd (omega arith)) in
    let back : length xs - suffix_len (λ x. not (p x)) xs ≡ 0 = omega (arith, e) in
    ap (λ n. drop n xs) back

-- the same from what `memrchr` answers of the same bytes
pub after_last_found : (xs ys : List ℕ) (r : Option ℕ) (i : ℕ) → ys ≡ xs → IsLastByte (is_byte 10) ys r → r ≡ Some i
    → (i < length xs) × (get_or xs i 0 ≡ 10) × (after_last is_lf xs ≡ drop (i + 1) xs)
after_last_found xs ys r i same answer is =
    let parts = rw (same, is) at answer in
    let below : i < length xs = parts.0.high in (
      below,
      eqb-true (get_or xs i 0) 10 parts.1,
      after_last_at is_lf xs i below parts.1 (λ k l h. false_from_ne_true (is_lf (get_or xs k 0)) (parts.0.after k l h)),
    )

pub after_last_nowhere : (xs ys : List ℕ) (r : Option ℕ) → ys ≡ xs → IsLastByte (is_byte 10) ys r → r ≡ None → after_last is_lf xs ≡ xs
after_last_nowhere xs ys r same answer is =
    let none = rw (same, is) at answer in
    after_last_none is_lf xs (λ k h. false_from_ne_true (is_lf (get_or xs k 0)) (none k zero-le h))
