-- What readers of parts of a number take.
--
-- Carries: based, exponent, fraction, letter_j, plain, point, radix, radix_or_plain and 1 more.
use Rattle.std.proofs.Common.{◌≡◌, ℕ, ◌+◌, ◌<◌, Bool, true, false, List, [], ◌∷◌, drop, refl, sym, ◌∙◌, ap, arith, zero, suc, ltb}
use Rattle.pylex_lexeme.specs.Chars.{begins}
use Rattle.pylex_lexeme.specs.Numbers.{is_decimal_digit, is_zero, is_hex_digit, is_octal_digit, is_binary_digit, is_point, is_e, is_j, is_x}
use Rattle.pylex_lexeme.specs.Numbers.{is_o, is_b, is_sign}
use Rattle.pylex_lexeme.specs.Lengths.{Took, joined_len, begins_some, based_len, radix_len, digit_part_len, exponent_len, point_len, j_len}
use Rattle.pylex_lexeme.specs.Lengths.{fraction_len, tail_len, plain_len, number_len}
use Rattle.std.proofs.lemmas.Bool.Decides.{nat_tests}

pub drop_drop : (a b : ℕ) (cs : List ℕ) → drop b (drop a cs) ≡ drop (a + b) cs
drop_drop zero b cs = let z : zero + b ≡ b = omega arith in rw z refl
drop_drop (suc a) b [] = nothing b (suc a + b)
  where
    nothing : (b n : ℕ) → drop {A = ℕ} b [] ≡ drop n []
    nothing zero zero = refl
    nothing zero (suc n) = refl
    nothing (suc b) zero = refl
    nothing (suc b) (suc n) = refl
drop_drop (suc a) b (c ∷ cs) = let z : suc a + b ≡ suc (a + b) = omega arith in rw z (drop_drop a b cs)

pub took_none : (n : ℕ) (cs : List ℕ) → n ≡ 0 → Took n false cs cs
took_none n cs e = rw e (record { taken = refl; rest = refl })

pub took_some : (n k j : ℕ) (cs rest : List ℕ) → n ≡ k + j → 0 < k → rest ≡ drop j (drop k cs) → Took n true cs rest
took_some n k j cs rest e h f =
    let p : ltb 0 n ≡ true = grind (arith, nat_tests) in
    record { taken = sym p; rest = f ∙ drop_drop k j cs ∙ ap (λ i. drop i cs) (sym e) }

pub took_is : (n m : ℕ) (b : Bool) (cs rest : List ℕ) → n ≡ m → Took m b cs rest → Took n b cs rest
took_is n m b cs rest e t = rw e t

pub took_then : (n k j : ℕ) (b : Bool) (cs mid rest : List ℕ) → n ≡ k + j → Took k true cs mid → Took j b mid rest → Took n true cs rest
took_then n k j b cs mid rest e t u =
    let h : ltb 0 k ≡ true = sym t.taken in
    let i : 0 < k = grind (arith, nat_tests) in
    took_some n k j cs rest e i (u.rest ∙ ap (drop j) t.rest)

pub nothing_taken : (k : ℕ) (cs mid : List ℕ) → Took k false cs mid → (k ≡ 0) × (mid ≡ cs)
nothing_taken k cs mid t =
    let h : ltb 0 k ≡ false = sym t.taken in
    let i : k ≡ 0 = grind (arith, nat_tests) in
    (i, t.rest ∙ ap (λ n. drop n cs) i)

pub took_only : (n k j : ℕ) (b : Bool) (cs mid rest : List ℕ) → n ≡ k + j → Took k false cs mid → Took j b mid rest → Took n b cs rest
took_only n k j b cs mid rest e t u =
    let p = nothing_taken k cs mid t in
    let f : n ≡ j = omega (arith, p.0, e) in
    record { taken = u.taken ∙ ap (ltb 0) (sym f); rest = u.rest ∙ ap (drop j) p.1 ∙ ap (λ i. drop i cs) (sym f) }

pub based_none : (d : ℕ → Bool) (cs : List ℕ) → begins_some d cs ≡ false → based_len d cs ≡ 0
unfolding based_len
based_none d cs e = rw e refl

pub based_some : (d : ℕ → Bool) (cs : List ℕ) → begins_some d cs ≡ true → based_len d cs ≡ 2 + joined_len d cs
unfolding based_len
based_some d cs e = rw e refl

pub radix_none : (cs : List ℕ) → begins is_zero cs ≡ false → radix_len cs ≡ 0
unfolding radix_len
radix_none cs e = rw e refl

pub radix_x : (cs : List ℕ) → begins is_zero cs ≡ true → begins is_x (drop 1 cs) ≡ true → radix_len cs ≡ based_len is_hex_digit (drop 2 cs)
unfolding radix_len
radix_x cs e f = rw (e, f) refl

pub radix_o : (cs : List ℕ) → begins is_zero cs ≡ true → begins is_x (drop 1 cs) ≡ false → begins is_o (drop 1 cs) ≡ true
    → radix_len cs ≡ based_len is_octal_digit (drop 2 cs)
unfolding radix_len
radix_o cs e f g = rw (e, f, g) refl

pub radix_b : (cs : List ℕ) → begins is_zero cs ≡ true → begins is_x (drop 1 cs) ≡ false → begins is_o (drop 1 cs) ≡ false
    → begins is_b (drop 1 cs) ≡ true → radix_len cs ≡ based_len is_binary_digit (drop 2 cs)
unfolding radix_len
radix_b cs e f g h = rw (e, f, g, h) refl

pub radix_other : (cs : List ℕ) → begins is_zero cs ≡ true → begins is_x (drop 1 cs) ≡ false → begins is_o (drop 1 cs) ≡ false
    → begins is_b (drop 1 cs) ≡ false → radix_len cs ≡ 0
unfolding radix_len
radix_other cs e f g h = rw (e, f, g, h) refl

pub exponent_none : (cs : List ℕ) → begins is_e cs ≡ false → exponent_len cs ≡ 0
unfolding exponent_len
exponent_none cs e = rw e refl

pub exponent_digits : (cs : List ℕ) → begins is_e cs ≡ true → begins is_decimal_digit (drop 1 cs) ≡ true
    → exponent_len cs ≡ 1 + joined_len is_decimal_digit (drop 1 cs)
unfolding exponent_len
exponent_digits cs e f = rw (e, f) refl

pub exponent_unsigned : (cs : List ℕ) → begins is_e cs ≡ true → begins is_decimal_digit (drop 1 cs) ≡ false
    → begins is_sign (drop 1 cs) ≡ false → exponent_len cs ≡ 0
unfolding exponent_len
exponent_unsigned cs e f g = rw (e, f, g) refl

pub exponent_empty : (cs : List ℕ) → begins is_e cs ≡ true → begins is_decimal_digit (drop 1 cs) ≡ false → begins is_sign (drop 1 cs) ≡ true
    → begins is_decimal_digit (drop 2 cs) ≡ false → exponent_len cs ≡ 0
unfolding exponent_len
exponent_empty cs e f g h = rw (e, f, g, h) refl

pub exponent_signed : (cs : List ℕ) → begins is_e cs ≡ true → begins is_decimal_digit (drop 1 cs) ≡ false
    → begins is_sign (drop 1 cs) ≡ true → begins is_decimal_digit (drop 2 cs) ≡ true
    → exponent_len cs ≡ 2 + joined_len is_decimal_digit (drop 2 cs)
unfolding exponent_len
exponent_signed cs e f g h = rw (e, f, g, h) refl

pub point_none : (cs : List ℕ) → begins is_point cs ≡ false → point_len cs ≡ 0
unfolding point_len
point_none cs e = rw e refl

pub point_alone : (cs : List ℕ) → begins is_point cs ≡ true → begins is_decimal_digit (drop 1 cs) ≡ false → point_len cs ≡ 1 + 0
unfolding point_len digit_part_len
point_alone cs e f = rw (e, f) refl

pub point_digits : (cs : List ℕ) → begins is_point cs ≡ true → begins is_decimal_digit (drop 1 cs) ≡ true
    → point_len cs ≡ 1 + joined_len is_decimal_digit (drop 1 cs)
unfolding point_len digit_part_len
point_digits cs e f = rw (e, f) refl

pub j_none : (cs : List ℕ) → begins is_j cs ≡ false → j_len cs ≡ 0
unfolding j_len
j_none cs e = rw e refl

pub j_some : (cs : List ℕ) → begins is_j cs ≡ true → j_len cs ≡ 1 + 0
unfolding j_len
j_some cs e = rw e refl

pub fraction_is : (cs : List ℕ) → fraction_len cs ≡ point_len cs + exponent_len (drop (point_len cs) cs)
unfolding fraction_len
fraction_is cs = refl

pub tail_is : (cs : List ℕ) → tail_len cs ≡ fraction_len cs + j_len (drop (fraction_len cs) cs)
unfolding tail_len
tail_is cs = refl

pub plain_tail : (cs mid rest : List ℕ) → mid ≡ drop (joined_len is_decimal_digit cs) cs → Took (tail_len mid) true mid rest
    → rest ≡ drop (plain_len cs) cs
unfolding plain_len
plain_tail cs mid rest e t =
    let n : ltb 0 (tail_len (drop (joined_len is_decimal_digit cs) cs)) ≡ true = ap (λ u. ltb 0 (tail_len u)) (sym e) ∙ sym t.taken in
    rw n (t.rest ∙ ap (λ u. drop (tail_len u) u) e
    ∙ drop_drop (joined_len is_decimal_digit cs) (tail_len (drop (joined_len is_decimal_digit cs) cs)) cs)

pub plain_other : (cs mid rest : List ℕ) → mid ≡ drop (joined_len is_decimal_digit cs) cs → begins is_zero cs ≡ false
    → Took (tail_len mid) false mid rest → rest ≡ drop (plain_len cs) cs
unfolding plain_len
plain_other cs mid rest e z t =
    let n : ltb 0 (tail_len (drop (joined_len is_decimal_digit cs) cs)) ≡ false = ap (λ u. ltb 0 (tail_len u)) (sym e) ∙ sym t.taken in
    rw (n, z) (t.rest ∙ ap (λ u. drop (tail_len u) u) e
    ∙ drop_drop (joined_len is_decimal_digit cs) (tail_len (drop (joined_len is_decimal_digit cs) cs)) cs)

pub plain_zeros : (cs mid rest : List ℕ) → mid ≡ drop (joined_len is_decimal_digit cs) cs → begins is_zero cs ≡ true
    → Took (tail_len mid) false mid rest → drop (joined_len is_zero cs) cs ≡ drop (plain_len cs) cs
unfolding plain_len
plain_zeros cs mid rest e z t =
    let n : ltb 0 (tail_len (drop (joined_len is_decimal_digit cs) cs)) ≡ false = ap (λ u. ltb 0 (tail_len u)) (sym e) ∙ sym t.taken in
    rw (n, z) refl

pub number_radix : (cs rest : List ℕ) → Took (radix_len cs) true cs rest → rest ≡ drop (number_len cs) cs
unfolding number_len
number_radix cs rest t = let n : ltb 0 (radix_len cs) ≡ true = sym t.taken in rw n t.rest

pub number_plain : (cs mid rest : List ℕ) → Took (radix_len cs) false cs mid → rest ≡ drop (plain_len mid) mid
    → rest ≡ drop (number_len cs) cs
unfolding number_len
number_plain cs mid rest t e =
    let n : ltb 0 (radix_len cs) ≡ false = sym t.taken in
    let p = nothing_taken (radix_len cs) cs mid t in
    rw n (e ∙ ap (λ u. drop (plain_len u) u) p.1)
