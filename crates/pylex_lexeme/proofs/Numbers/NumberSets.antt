-- Sets of characters in numbers that have nothing in common.
--
-- Carries: in_run, not_j, either_not, zero_digit and 10 more, for NumberBest, Parts. On: Best.
use Rattle.std.proofs.Common.{◌≡◌, ℕ, ◌≤◌, Bool, true, false, ◌||◌, ◌==◌, not, refl, arith, leb, ⊎_elim}
use Rattle.std.proofs.lemmas.Bool.{eqb-true, leb-true, and_parts, or_cases}
use Rattle.std.proofs.lemmas.Bool.Decides.{nat_tests}
use Rattle.pylex_lexeme.specs.Numbers.{is_decimal_digit, is_zero, is_one_to_nine, is_point, is_e, is_j, is_sign}

abbrev pub in_run : ℕ → Bool
in_run c = is_decimal_digit c || (c == 95)

abbrev pub not_j : ℕ → Bool
not_j c = not (is_j c)

pub digit_bounds : (c : ℕ) → is_decimal_digit c ≡ true → (48 ≤ c) × (c ≤ 57)
digit_bounds c e = let p = and_parts (leb 48 c) (leb c 57) e in (leb-true 48 c p.0, leb-true c 57 p.1)

pub digit_not_point : (c : ℕ) → is_decimal_digit c ≡ true → is_point c ≡ false
digit_not_point c e = let b = digit_bounds c e in grind (arith, nat_tests)

pub digit_not_e : (c : ℕ) → is_decimal_digit c ≡ true → is_e c ≡ false
digit_not_e c e = let b = digit_bounds c e in grind (arith, nat_tests)

pub digit_not_sign : (c : ℕ) → is_decimal_digit c ≡ true → is_sign c ≡ false
digit_not_sign c e = let b = digit_bounds c e in grind (arith, nat_tests)

pub digit_not_j : (c : ℕ) → is_decimal_digit c ≡ true → not_j c ≡ true
digit_not_j c e = let b = digit_bounds c e in let f : is_j c ≡ false = grind (arith, nat_tests) in rw f refl

run_cases : (f : ℕ → Bool) (c : ℕ) → in_run c ≡ true → (is_decimal_digit c ≡ true → f c ≡ false) → f 95 ≡ false → f c ≡ false
run_cases f c e g h =
    ⊎_elim g
    (λ (i : (c == 95) ≡ true). let z : c ≡ 95 = eqb-true c 95 i in rw z h)
    (or_cases (is_decimal_digit c) (c == 95) e)

pub run_not_point : (c : ℕ) → in_run c ≡ true → is_point c ≡ false
run_not_point c e = run_cases is_point c e (digit_not_point c) refl

pub run_not_e : (c : ℕ) → in_run c ≡ true → is_e c ≡ false
run_not_e c e = run_cases is_e c e (digit_not_e c) refl

pub point_is : (c : ℕ) → is_point c ≡ true → c ≡ 46
point_is c e = eqb-true c 46 e

pub either : (f : ℕ → Bool) (a b c : ℕ) → ((c == a) || (c == b)) ≡ true → f a ≡ true → f b ≡ true → f c ≡ true
either f a b c e g h =
    ⊎_elim
    (λ (i : (c == a) ≡ true). let z : c ≡ a = eqb-true c a i in rw z g)
    (λ (i : (c == b) ≡ true). let z : c ≡ b = eqb-true c b i in rw z h)
    (or_cases (c == a) (c == b) e)

pub either_not : (f : ℕ → Bool) (a b c : ℕ) → ((c == a) || (c == b)) ≡ true → f a ≡ false → f b ≡ false → f c ≡ false
either_not f a b c e g h =
    ⊎_elim
    (λ (i : (c == a) ≡ true). let z : c ≡ a = eqb-true c a i in rw z g)
    (λ (i : (c == b) ≡ true). let z : c ≡ b = eqb-true c b i in rw z h)
    (or_cases (c == a) (c == b) e)

pub zero_digit : (c : ℕ) → is_zero c ≡ true → is_decimal_digit c ≡ true
zero_digit c e = let z : c ≡ 48 = eqb-true c 48 e in rw z refl

pub one_digit : (c : ℕ) → is_one_to_nine c ≡ true → is_decimal_digit c ≡ true
one_digit c e =
    let p = and_parts (leb 49 c) (leb c 57) e in
    let l = leb-true 49 c p.0 in
    let h = leb-true c 57 p.1 in
    grind (arith, nat_tests)

pub other_digit : (c : ℕ) → is_decimal_digit c ≡ true → is_zero c ≡ false → is_one_to_nine c ≡ true
other_digit c e f = let b = digit_bounds c e in grind (arith, nat_tests)

pub not_both : (c : ℕ) → is_zero c ≡ true → is_one_to_nine c ≡ false
not_both c e = let z : c ≡ 48 = eqb-true c 48 e in rw z refl
