-- A number is read to the end of the longest one.
--
-- Carries: number. On: Best, Parts, NumberSets, Taking and 3 more.
use Rattle.std.proofs.Common.{◌≡◌, ℕ, ◌+◌, ◌<◌, Bool, true, false, ◌&&◌, ◌||◌, ◌==◌, List, [], ◌∷◌, length, drop, take, refl, sym, ◌∙◌, ap}
use Rattle.std.proofs.Common.{subst, arith, zero, suc, ⊎_elim, ltb, if◌then◌else◌}
use Rattle.std.specs.List.{list_all}
use Rattle.std.proofs.lemmas.Bool.Decides.{nat_tests}
use Rattle.std.proofs.lemmas.Bool.{cases_Bool, and_parts, or_cases}
use Rattle.pylex_lexeme.specs.Chars.{begins}
use Rattle.pylex_lexeme.specs.Numbers.{is_nil, split_any, optional, headed, is_digit_part, is_exponent, is_decimal_digit, is_zero, is_point}
use Rattle.pylex_lexeme.specs.Numbers.{is_e, is_j, is_x, is_o, is_b, is_radix, is_decimal, is_point_after, is_point_before, is_raised}
use Rattle.pylex_lexeme.specs.Numbers.{is_float, is_imaginary, is_number}
use Rattle.pylex_lexeme.specs.Lengths.{longest, joined_len, radix_len, digit_part_len, exponent_len, point_len, j_len, fraction_len}
use Rattle.pylex_lexeme.specs.Lengths.{tail_len, plain_len, number_len, begins_number}
use Rattle.pylex_lexeme.proofs.Fronts.Longest.{IsBest, longest_within_is}
use Rattle.pylex_lexeme.proofs.Fronts.Joined.{len_digit, stop_first}
use Rattle.pylex_lexeme.proofs.Fronts.Best.{NoFront, Above, Reads, then_best, then_none, first_none, optional_best, headed_best}
use Rattle.pylex_lexeme.proofs.Fronts.Best.{headed_starts, or_left, or_right, or_none, or_above, none_above}
use Rattle.pylex_lexeme.proofs.Fronts.Best.{best_above, split_all}
use Rattle.pylex_lexeme.proofs.Numbers.NumberSets.{in_run, not_j, run_not_point, digit_not_point, digit_not_j, either, either_not}
use Rattle.pylex_lexeme.proofs.Numbers.NumberSets.{zero_digit, point_is}
use Rattle.pylex_lexeme.proofs.Numbers.Parts.{ReadsAfter, then_reads, reads_best, part_best, part_none, part_all, part_run, exponent_reads}
use Rattle.pylex_lexeme.proofs.Numbers.Parts.{exponent_starts, j_reads, j_starts, after_point, radix_reads, decimal_part, zeros_best}
use Rattle.pylex_lexeme.proofs.Numbers.Parts.{whole_best, begins_not, headed_part}
use Rattle.pylex_lexeme.proofs.Fronts.Taking.{drop_drop, point_none, exponent_none, j_none, radix_none, radix_other, tail_is}

-- Floats hold no j
headed_all : (a f : ℕ → Bool) (p : List ℕ → Bool) → ((c : ℕ) → f c ≡ true → a c ≡ true) → ((t : List ℕ) → p t ≡ true → list_all a t ≡ true)
    → (t : List ℕ) → headed f p t ≡ true → list_all a t ≡ true
headed_all a f p g h [] e = refl
headed_all a f p g h (c ∷ t) e = let q = and_parts (f c) (p t) e in let i : a c ≡ true = g c q.0 in rw i (h t q.1)

optional_all : (a : ℕ → Bool) (p : List ℕ → Bool) → ((t : List ℕ) → p t ≡ true → list_all a t ≡ true) → (t : List ℕ)
    → optional p t ≡ true → list_all a t ≡ true
optional_all a p h [] e = refl
optional_all a p h (c ∷ t) e = h (c ∷ t) e

part_no_j : (t : List ℕ) → is_digit_part t ≡ true → list_all not_j t ≡ true
part_no_j t e = part_all not_j digit_not_j refl t e

exponent_no_j : (t : List ℕ) → is_exponent t ≡ true → list_all not_j t ≡ true
unfolding is_exponent
exponent_no_j t e =
    ⊎_elim
    (λ (h : headed is_e is_digit_part t ≡ true). headed_all not_j is_e is_digit_part
    (λ c i. either not_j 101 69 c i refl refl) part_no_j t h)
    (λ (h : headed is_e (headed (λ c. (c == 43) || (c == 45)) is_digit_part) t ≡ true).
    headed_all not_j is_e (headed (λ c. (c == 43) || (c == 45)) is_digit_part) (λ c i. either not_j 101 69 c i refl refl)
    (λ u i. headed_all not_j (λ c. (c == 43) || (c == 45)) is_digit_part (λ c k. either not_j 43 45 c k refl refl) part_no_j u i) t h)
    (or_cases (headed is_e is_digit_part t) (headed is_e (headed (λ c. (c == 43) || (c == 45)) is_digit_part) t) e)

point_no_j : (c : ℕ) → is_point c ≡ true → not_j c ≡ true
point_no_j c e = let z : c ≡ 46 = point_is c e in rw z refl

then_no_j : (p q : List ℕ → Bool) → ((t : List ℕ) → p t ≡ true → list_all not_j t ≡ true)
    → ((t : List ℕ) → q t ≡ true → list_all not_j t ≡ true) → (t : List ℕ) → split_any p q t ≡ true → list_all not_j t ≡ true
then_no_j p q f g t e = split_all not_j p q true t f g e

float_no_j : (t : List ℕ) → is_float t ≡ true → list_all not_j t ≡ true
unfolding is_float is_point_after is_point_before is_raised
float_no_j t e =
    ⊎_elim
    (λ (h : (is_point_after t || is_point_before t) ≡ true).
    ⊎_elim
    (λ (i : is_point_after t ≡ true).
    then_no_j is_digit_part (headed is_point (split_any (optional is_digit_part) (optional is_exponent))) part_no_j
    (headed_all not_j is_point (split_any (optional is_digit_part) (optional is_exponent)) point_no_j
    (then_no_j (optional is_digit_part) (optional is_exponent) (optional_all not_j is_digit_part part_no_j)
    (optional_all not_j is_exponent exponent_no_j))) t i)
    (λ (i : is_point_before t ≡ true).
    headed_all not_j is_point (split_any is_digit_part (optional is_exponent)) point_no_j
    (then_no_j is_digit_part (optional is_exponent) part_no_j (optional_all not_j is_exponent exponent_no_j)) t i)
    (or_cases (is_point_after t) (is_point_before t) h))
    (λ (h : is_raised t ≡ true). then_no_j is_digit_part is_exponent part_no_j exponent_no_j t h)
    (or_cases (is_point_after t || is_point_before t) (is_raised t) e)

-- A digitpart or a float
abbrev pub is_real : List ℕ → Bool
is_real t = is_digit_part t || is_float t

real_no_j : (t : List ℕ) → is_real t ≡ true → list_all not_j t ≡ true
real_no_j t e = ⊎_elim (part_no_j t) (float_no_j t) (or_cases (is_digit_part t) (is_float t) e)

-- a point, digits and an exponent
pub point_fraction : (c : ℕ) (cs : List ℕ) → is_point c ≡ true
    → fraction_len (c ∷ cs) ≡ suc (digit_part_len cs + exponent_len (drop (digit_part_len cs) cs))
unfolding fraction_len point_len
point_fraction c cs e =
    let z : 1 + digit_part_len cs ≡ suc (digit_part_len cs) = omega arith in
    let y : suc (digit_part_len cs) + exponent_len (drop (digit_part_len cs) cs) ≡ suc
    (digit_part_len cs + exponent_len (drop (digit_part_len cs) cs)) = omega arith in
    rw (e, z) y

pub other_fraction : (cs : List ℕ) → begins is_point cs ≡ false → fraction_len cs ≡ exponent_len cs
unfolding fraction_len
other_fraction cs e =
    let z = point_none cs e in
    let y : 0 + exponent_len cs ≡ exponent_len cs = omega arith in
    rw z y

after_reads : (cs : List ℕ) → begins is_point cs ≡ true
    → Reads (headed is_point (split_any (optional is_digit_part) (optional is_exponent))) cs (fraction_len cs)
after_reads [] e = cc
after_reads (c ∷ cs) e =
    reads_best (headed is_point (split_any (optional is_digit_part) (optional is_exponent))) (c ∷ cs) (fraction_len (c ∷ cs))
    (digit_part_len cs + exponent_len (drop (digit_part_len cs) cs)) (point_fraction c cs e)
    (headed_best is_point (split_any (optional is_digit_part) (optional is_exponent)) c cs
    (digit_part_len cs + exponent_len (drop (digit_part_len cs) cs)) e (after_point cs))

exponent_off : (cs : List ℕ) → begins is_e cs ≡ false → NoFront is_exponent cs
unfolding is_exponent
exponent_off cs e = or_none (headed is_e is_digit_part) (headed is_e (headed (λ c. (c == 43) || (c == 45)) is_digit_part)) cs
    (headed_part is_e is_digit_part cs e) (headed_part is_e (headed (λ c. (c == 43) || (c == 45)) is_digit_part) cs e)

point_not_e : (c : ℕ) → is_point c ≡ true → is_e c ≡ false
point_not_e c e = let z : c ≡ 46 = point_is c e in rw z refl

-- the float that begins with some digits
float_after : (p q r : List ℕ → Bool) (cs : List ℕ) (m n : ℕ) → ReadsAfter p cs m n → NoFront q cs → NoFront r cs
    → ReadsAfter (λ t. p t || q t || r t) cs m n
float_after p q r cs m zero a b c = or_none (λ t. p t || q t) r cs (or_none p q cs a b) c
float_after p q r cs m (suc n) a b c =
    or_left (λ t. p t || q t) r cs (m + suc n) (or_left p q cs (m + suc n) a (none_above q cs _ b)) (none_above r cs _ c)

float_raised : (p q r : List ℕ → Bool) (cs : List ℕ) (m n : ℕ) → NoFront p cs → NoFront q cs → ReadsAfter r cs m n
    → ReadsAfter (λ t. p t || q t || r t) cs m n
float_raised p q r cs m zero a b c = or_none (λ t. p t || q t) r cs (or_none p q cs a b) c
float_raised p q r cs m (suc n) a b c =
    or_right (λ t. p t || q t) r cs (m + suc n) (none_above (λ t. p t || q t) cs _ (or_none p q cs a b)) c

pub float_reads : (cs : List ℕ) → begins is_decimal_digit cs ≡ true → ReadsAfter is_float cs (joined_len is_decimal_digit cs)
    (fraction_len (drop (joined_len is_decimal_digit cs) cs))
unfolding is_float is_point_after is_point_before is_raised
float_reads cs e =
    ⊎_elim
    (λ (h : begins is_point r ≡ true).
    float_after is_point_after is_point_before is_raised cs m (fraction_len r)
    (then_reads is_digit_part (headed is_point (split_any (optional is_digit_part) (optional is_exponent))) in_run cs m (fraction_len r) b a
    (headed_starts in_run is_point (split_any (optional is_digit_part) (optional is_exponent)) run_not_point) (after_reads r h))
    p
    (then_none is_digit_part is_exponent in_run cs m b a exponent_starts (exponent_off r (begins_not is_point is_e r point_not_e h))))
    (λ (h : begins is_point r ≡ false).
    rw (other_fraction r h)
    (float_raised is_point_after is_point_before is_raised cs m (exponent_len r)
    (then_none is_digit_part (headed is_point (split_any (optional is_digit_part) (optional is_exponent))) in_run cs m b a
    (headed_starts in_run is_point (split_any (optional is_digit_part) (optional is_exponent)) run_not_point)
    (headed_part is_point (split_any (optional is_digit_part) (optional is_exponent)) r h))
    p
    (then_reads is_digit_part is_exponent in_run cs m (exponent_len r) b a exponent_starts (exponent_reads r))))
    (cases_Bool (begins is_point r))
  where
    m : ℕ
    m = joined_len is_decimal_digit cs

    r : List ℕ
    r = drop (joined_len is_decimal_digit cs) cs

    b : IsBest is_digit_part cs (joined_len is_decimal_digit cs)
    b = part_best cs e

    a : list_all in_run (take (joined_len is_decimal_digit cs) cs) ≡ true
    a = part_run (take (joined_len is_decimal_digit cs) cs) (part_best cs e).passes

    p : NoFront is_point_before cs
    p = headed_part is_point (split_any is_digit_part (optional is_exponent)) cs (begins_not is_decimal_digit is_point cs digit_not_point e)

-- the float that begins with a point
pub point_float : (c : ℕ) (cs : List ℕ) → is_point c ≡ true → begins is_decimal_digit cs ≡ true
    → IsBest is_float (c ∷ cs) (fraction_len (c ∷ cs))
unfolding is_float is_point_after is_point_before is_raised digit_part_len
point_float c cs e d =
    let z : is_decimal_digit c ≡ false = (let y : c ≡ 46 = point_is c e in rw y refl) in
    let n : NoFront is_digit_part (c ∷ cs) = part_none (c ∷ cs) z in
    let b = part_best cs d in
    let k : digit_part_len cs ≡ joined_len is_decimal_digit cs = rw d refl in
    rw (point_fraction c cs e, k)
    (or_left (λ t. is_point_after t || is_point_before t) is_raised (c ∷ cs) _
    (or_right is_point_after is_point_before (c ∷ cs) _
    (none_above is_point_after (c ∷ cs) _
    (first_none is_digit_part (headed is_point (split_any (optional is_digit_part) (optional is_exponent))) (c ∷ cs) n))
    (headed_best is_point (split_any is_digit_part (optional is_exponent)) c cs _ e
    (then_best is_digit_part (optional is_exponent) in_run cs (joined_len is_decimal_digit cs)
    (exponent_len (drop (joined_len is_decimal_digit cs) cs)) b
    (part_run (take (joined_len is_decimal_digit cs) cs) b.passes) exponent_starts
    (optional_best is_exponent (drop (joined_len is_decimal_digit cs) cs) (exponent_len (drop (joined_len is_decimal_digit cs) cs))
    (exponent_reads (drop (joined_len is_decimal_digit cs) cs))))))
    (none_above is_raised (c ∷ cs) _ (first_none is_digit_part is_exponent (c ∷ cs) n)))

-- What is known where a real number of k characters stands
imaginary_reads : (cs : List ℕ) (k : ℕ) → IsBest is_real cs k → ReadsAfter is_imaginary cs k (j_len (drop k cs))
unfolding is_imaginary
imaginary_reads cs k b = then_reads is_real (headed is_j is_nil) not_j cs k (j_len (drop k cs)) b (real_no_j (take k cs) b.passes)
    j_starts (j_reads (drop k cs))

real_above : (cs : List ℕ) (k : ℕ) → IsBest is_real cs k → Above is_float cs k
real_above cs k b j h i = (or_false (is_digit_part (take j cs)) (is_float (take j cs)) (b.longest j h i)).1
  where
    or_false : (x y : Bool) → (x || y) ≡ false → (x ≡ false) × (y ≡ false)
    or_false true y e = cc
    or_false false y e = (refl, e)

decimal_above : (cs : List ℕ) (k : ℕ) → Above is_digit_part cs k → Above is_decimal cs k
decimal_above cs k f j h i =
    ⊎_elim
    (λ (e : is_decimal (take j cs) ≡ true). let a = decimal_part (take j cs) e in let b = f j h i in cc)
    (λ (e : is_decimal (take j cs) ≡ false). e)
    (cases_Bool (is_decimal (take j cs)))

part_above : (cs : List ℕ) (k : ℕ) → IsBest is_real cs k → Above is_digit_part cs k
part_above cs k b j h i = (or_false (is_digit_part (take j cs)) (is_float (take j cs)) (b.longest j h i)).0
  where
    or_false : (x y : Bool) → (x || y) ≡ false → (x ≡ false) × (y ≡ false)
    or_false true y e = cc
    or_false false y e = (refl, e)

with_j : (cs : List ℕ) (k n : ℕ) → IsBest is_real cs k → NoFront is_radix cs → ReadsAfter is_imaginary cs k (suc n)
    → IsBest is_number cs (k + suc n)
unfolding is_number
with_j cs k n b r i =
    or_right (λ t. is_decimal t || is_radix t || is_float t) is_imaginary cs (k + suc n)
    (or_above (λ t. is_decimal t || is_radix t) is_float cs (k + suc n)
    (or_above is_decimal is_radix cs (k + suc n) (more is_decimal (decimal_above cs k (part_above cs k b))) (none_above is_radix cs _ r))
    (more is_float (real_above cs k b)))
    i
  where
    more : (p : List ℕ → Bool) → Above p cs k → Above p cs (k + suc n)
    more p f j h l = f j (omega arith) l

without_j : (cs : List ℕ) (k : ℕ) → IsBest is_real cs k → IsBest is_float cs k → NoFront is_radix cs
    → ReadsAfter is_imaginary cs k 0 → IsBest is_number cs k
unfolding is_number
without_j cs k b f r i =
    or_left (λ t. is_decimal t || is_radix t || is_float t) is_imaginary cs k
    (or_right (λ t. is_decimal t || is_radix t) is_float cs k
    (or_above is_decimal is_radix cs k (decimal_above cs k (part_above cs k b)) (none_above is_radix cs _ r))
    f)
    (none_above is_imaginary cs _ i)

only_decimal : (cs : List ℕ) (k n : ℕ) → IsBest is_decimal cs n → NoFront is_float cs → NoFront is_radix cs
    → ReadsAfter is_imaginary cs k 0 → IsBest is_number cs n
unfolding is_number
only_decimal cs k n b f r i =
    or_left (λ t. is_decimal t || is_radix t || is_float t) is_imaginary cs n
    (or_left (λ t. is_decimal t || is_radix t) is_float cs n
    (or_left is_decimal is_radix cs n b (none_above is_radix cs _ r))
    (none_above is_float cs _ f))
    (none_above is_imaginary cs _ i)

only_radix : (cs : List ℕ) (n : ℕ) → Above is_decimal cs n → IsBest is_radix cs n → NoFront is_float cs
    → NoFront is_imaginary cs → IsBest is_number cs n
unfolding is_number
only_radix cs n d b f i =
    or_left (λ t. is_decimal t || is_radix t || is_float t) is_imaginary cs n
    (or_left (λ t. is_decimal t || is_radix t) is_float cs n
    (or_right is_decimal is_radix cs n d b)
    (none_above is_float cs _ f))
    (none_above is_imaginary cs _ i)

-- a real number and perhaps a j
real_number : (cs : List ℕ) (k n : ℕ) → n ≡ j_len (drop k cs) → IsBest is_real cs k → IsBest is_float cs k → NoFront is_radix cs
    → IsBest is_number cs (k + n)
real_number cs k zero e b f r =
    let i : ReadsAfter is_imaginary cs k 0 = subst (ReadsAfter is_imaginary cs k) (sym e) (imaginary_reads cs k b) in
    let z : k + zero ≡ k = omega arith in
    rw z (without_j cs k b f r i)
real_number cs k (suc n) e b f r =
    let i : ReadsAfter is_imaginary cs k (suc n) = subst (ReadsAfter is_imaginary cs k) (sym e) (imaginary_reads cs k b) in
    with_j cs k n b r i

-- digits alone and perhaps a j
abbrev pub whole_len : List ℕ → ℕ → ℕ → ℕ
whole_len cs k zero = if begins is_zero cs then joined_len is_zero cs else joined_len is_decimal_digit cs
whole_len cs k (suc n) = k + suc n

whole_number : (cs : List ℕ) (k n : ℕ) → begins is_decimal_digit cs ≡ true → n ≡ j_len (drop k cs) → IsBest is_real cs k
    → NoFront is_float cs → NoFront is_radix cs → IsBest is_number cs (whole_len cs k n)
whole_number cs k zero d e b f r =
    let i : ReadsAfter is_imaginary cs k 0 = subst (ReadsAfter is_imaginary cs k) (sym e) (imaginary_reads cs k b) in
    ⊎_elim
    (λ (z : begins is_zero cs ≡ true). rw z (only_decimal cs k (joined_len is_zero cs) (zeros_best cs z) f r i))
    (λ (z : begins is_zero cs ≡ false). rw z (only_decimal cs k (joined_len is_decimal_digit cs) (whole_best cs d z) f r i))
    (cases_Bool (begins is_zero cs))
whole_number cs k (suc n) d e b f r =
    let i : ReadsAfter is_imaginary cs k (suc n) = subst (ReadsAfter is_imaginary cs k) (sym e) (imaginary_reads cs k b) in
    with_j cs k n b r i

-- digits and what follows
digits_number : (cs : List ℕ) (m n : ℕ) → begins is_decimal_digit cs ≡ true → m ≡ joined_len is_decimal_digit cs
    → n ≡ fraction_len (drop m cs) → IsBest is_digit_part cs m → ReadsAfter is_float cs m n → NoFront is_radix cs
    → IsBest is_number cs (plain_len cs)
unfolding plain_len tail_len
digits_number cs m zero d g e b f r =
    let x : IsBest is_real cs m = or_left is_digit_part is_float cs m b (none_above is_float cs _ f) in
    let t : tail_len (drop m cs) ≡ j_len (drop m cs) = (let z : 0 + j_len (drop m cs) ≡ j_len (drop m cs) = omega arith in rw (sym e) z) in
    last (j_len (drop m cs)) refl x t
  where
    last : (n : ℕ) → n ≡ j_len (drop m cs) → IsBest is_real cs m → tail_len (drop m cs) ≡ j_len (drop m cs)
        → IsBest is_number cs (plain_len cs)
    last zero h x t =
        let y : tail_len (drop (joined_len is_decimal_digit cs) cs) ≡ 0 = ap (λ i. tail_len (drop i cs)) (sym g) ∙ t ∙ sym h in
        let w = whole_number cs m zero d h x f r in
        let v : joined_len is_decimal_digit cs + 0 ≡ joined_len is_decimal_digit cs = omega arith in
        rw (y, v) w
    last (suc n) h x t =
        let y : tail_len (drop (joined_len is_decimal_digit cs) cs) ≡ suc n = ap (λ i. tail_len (drop i cs)) (sym g) ∙ t ∙ sym h in
        let w : IsBest is_number cs (m + suc n) = whole_number cs m (suc n) d h x f r in
        let p : ltb 0 (suc n) ≡ true = grind (arith, nat_tests) in
        rw (y, p, sym g) w
digits_number cs m (suc n) d g e b f r =
    let x : IsBest is_real cs (m + suc n) =
    or_right is_digit_part is_float cs (m + suc n) (best_above is_digit_part cs m (m + suc n) b (omega arith)) f in
    let w : IsBest is_number cs ((m + suc n) + j_len (drop (m + suc n) cs)) =
    real_number cs (m + suc n) (j_len (drop (m + suc n) cs)) refl x f r in
    let t : tail_len (drop m cs) ≡ suc n + j_len (drop (m + suc n) cs) =
    (rw (sym e) (ap (λ u. suc n + j_len u) (drop_drop m (suc n) cs))) in
    let y : tail_len (drop (joined_len is_decimal_digit cs) cs) ≡ suc n + j_len (drop (m + suc n) cs) =
    ap (λ i. tail_len (drop i cs)) (sym g) ∙ t in
    let p : ltb 0 (suc n + j_len (drop (m + suc n) cs)) ≡ true = grind (arith, nat_tests) in
    let s : (m + suc n) + j_len (drop (m + suc n) cs) ≡ m + (suc n + j_len (drop (m + suc n) cs)) = omega arith in
    let v : IsBest is_number cs (m + (suc n + j_len (drop (m + suc n) cs))) = subst (IsBest is_number cs) s w in
    rw (y, p, sym g) v

-- Where a radix stands
record Plain (c : ℕ) : Type 0 where
  pub digit : is_decimal_digit c ≡ false
  pub joiner : (c == 95) ≡ false
  pub point : is_point c ≡ false
  pub e : is_e c ≡ false
  pub j : is_j c ≡ false

plain_x : (c : ℕ) → is_x c ≡ true → Plain c
plain_x c h = record {
  digit = either_not is_decimal_digit 120 88 c h refl refl;
  joiner = either_not (λ d. d == 95) 120 88 c h refl refl;
  point = either_not is_point 120 88 c h refl refl;
  e = either_not is_e 120 88 c h refl refl;
  j = either_not is_j 120 88 c h refl refl;
}

plain_o : (c : ℕ) → is_o c ≡ true → Plain c
plain_o c h = record {
  digit = either_not is_decimal_digit 111 79 c h refl refl;
  joiner = either_not (λ d. d == 95) 111 79 c h refl refl;
  point = either_not is_point 111 79 c h refl refl;
  e = either_not is_e 111 79 c h refl refl;
  j = either_not is_j 111 79 c h refl refl;
}

plain_b : (c : ℕ) → is_b c ≡ true → Plain c
plain_b c h = record {
  digit = either_not is_decimal_digit 98 66 c h refl refl;
  joiner = either_not (λ d. d == 95) 98 66 c h refl refl;
  point = either_not is_point 98 66 c h refl refl;
  e = either_not is_e 98 66 c h refl refl;
  j = either_not is_j 98 66 c h refl refl;
}

plain_radix : (z c : ℕ) (cs : List ℕ) (n : ℕ) → is_zero z ≡ true → radix_len (z ∷ c ∷ cs) ≡ suc n → Plain c
plain_radix z c cs n e h =
    ⊎_elim (plain_x c)
    (λ (f : is_x c ≡ false).
    ⊎_elim (plain_o c)
    (λ (g : is_o c ≡ false).
    ⊎_elim (plain_b c)
    (λ (i : is_b c ≡ false). let y = radix_other (z ∷ c ∷ cs) e f g i in absurd (omega (arith, y, h)))
    (cases_Bool (is_b c)))
    (cases_Bool (is_o c)))
    (cases_Bool (is_x c))

radix_number : (z c : ℕ) (cs : List ℕ) (n : ℕ) → is_zero z ≡ true → Plain c → IsBest is_radix (z ∷ c ∷ cs) (suc n)
    → IsBest is_number (z ∷ c ∷ cs) (suc n)
radix_number z c cs n e p b =
    let d : is_decimal_digit z ≡ true = zero_digit z e in
    let m : joined_len is_decimal_digit (z ∷ c ∷ cs) ≡ 1 = (let s = stop_first is_decimal_digit (c ∷ cs) p.digit p.joiner in
    len_digit is_decimal_digit z (c ∷ cs) d ∙ ap suc s) in
    let f : fraction_len (c ∷ cs) ≡ 0 = other_fraction (c ∷ cs) p.point ∙ exponent_none (c ∷ cs) p.e in
    let j : j_len (c ∷ cs) ≡ 0 = j_none (c ∷ cs) p.j in
    let a : ReadsAfter is_float (z ∷ c ∷ cs) (joined_len is_decimal_digit (z ∷ c ∷ cs))
    (fraction_len (drop (joined_len is_decimal_digit (z ∷ c ∷ cs)) (z ∷ c ∷ cs))) = float_reads (z ∷ c ∷ cs) d in
    let g : NoFront is_float (z ∷ c ∷ cs) = simp (m, f) at a in
    let o : IsBest is_digit_part (z ∷ c ∷ cs) 1 = subst (IsBest is_digit_part (z ∷ c ∷ cs)) m (part_best (z ∷ c ∷ cs) d) in
    let r : IsBest is_real (z ∷ c ∷ cs) 1 = or_left is_digit_part is_float (z ∷ c ∷ cs) 1 o (none_above is_float (z ∷ c ∷ cs) _ g) in
    let i : ReadsAfter is_imaginary (z ∷ c ∷ cs) 1 0 =
    subst (ReadsAfter is_imaginary (z ∷ c ∷ cs) 1) j (imaginary_reads (z ∷ c ∷ cs) 1 r) in
    only_radix (z ∷ c ∷ cs) (suc n) (decimal_above (z ∷ c ∷ cs) (suc n) (best_above is_digit_part (z ∷ c ∷ cs) 1 (suc n) o (omega arith))) b
    g i

at_digit : (cs : List ℕ) (n : ℕ) → n ≡ radix_len cs → Reads is_radix cs n → begins is_decimal_digit cs ≡ true
    → IsBest is_number cs (number_len cs)
unfolding number_len
at_digit cs zero e r d =
    rw (sym e) (digits_number cs (joined_len is_decimal_digit cs) (fraction_len (drop (joined_len is_decimal_digit cs) cs)) d refl refl
    (part_best cs d) (float_reads cs d) r)
at_digit [] (suc n) e r d = cc
at_digit (z ∷ cs) (suc n) e r d =
    ⊎_elim (at_zero z cs r (sym e))
    (λ (f : is_zero z ≡ false). let y = radix_none (z ∷ cs) f in absurd (omega (arith, y, e)))
    (cases_Bool (is_zero z))
  where
    at_zero : (z : ℕ) (cs : List ℕ) → IsBest is_radix (z ∷ cs) (suc n) → radix_len (z ∷ cs) ≡ suc n → is_zero z ≡ true
        → IsBest is_number (z ∷ cs) (number_len (z ∷ cs))
    at_zero z [] r e f = let y = radix_other (z ∷ []) f refl refl refl in absurd (omega (arith, y, e))
    at_zero z (c ∷ cs) r e f = let p : ltb 0 (suc n) ≡ true = grind (arith, nat_tests) in
        rw (e, p) (radix_number z c cs n f (plain_radix z c cs n f e) r)

at_point : (c : ℕ) (cs : List ℕ) → is_point c ≡ true → begins is_decimal_digit cs ≡ true → IsBest is_number (c ∷ cs) (number_len (c ∷ cs))
unfolding number_len plain_len
at_point c cs e d =
    let y : c ≡ 46 = point_is c e in
    let z : is_zero c ≡ false = rw y refl in
    let x : is_decimal_digit c ≡ false = rw y refl in
    let u : (c == 95) ≡ false = rw y refl in
    let r : radix_len (c ∷ cs) ≡ 0 = radix_none (c ∷ cs) z in
    let o : NoFront is_radix (c ∷ cs) = subst (Reads is_radix (c ∷ cs)) r (radix_reads (c ∷ cs)) in
    let m : joined_len is_decimal_digit (c ∷ cs) ≡ 0 = stop_first is_decimal_digit (c ∷ cs) x u in
    let b : IsBest is_float (c ∷ cs) (fraction_len (c ∷ cs)) = point_float c cs e d in
    let q : IsBest is_real (c ∷ cs) (fraction_len (c ∷ cs)) =
    or_right is_digit_part is_float (c ∷ cs) _ (none_above is_digit_part (c ∷ cs) _ (part_none (c ∷ cs) x)) b in
    let w = real_number (c ∷ cs) (fraction_len (c ∷ cs)) (j_len (drop (fraction_len (c ∷ cs)) (c ∷ cs))) refl q b o in
    let f = point_fraction c cs e in
    let t = tail_is (c ∷ cs) in
    let p : ltb 0 (tail_len (c ∷ cs)) ≡ true = grind (arith, nat_tests) in
    let v : 0 + tail_len (c ∷ cs) ≡ tail_len (c ∷ cs) = omega arith in
    let k : IsBest is_number (c ∷ cs) (tail_len (c ∷ cs)) = subst (IsBest is_number (c ∷ cs)) (sym t) w in
    rw (r, m, p, v) k

pub number_best : (cs : List ℕ) → begins_number cs ≡ true → IsBest is_number cs (number_len cs)
number_best [] e = cc
number_best (c ∷ cs) e =
    ⊎_elim
    (λ (d : is_decimal_digit c ≡ true). at_digit (c ∷ cs) (radix_len (c ∷ cs)) refl (radix_reads (c ∷ cs)) d)
    (λ (h : (is_point c && begins is_decimal_digit cs) ≡ true). let p = and_parts (is_point c) (begins is_decimal_digit cs)
    h in at_point c cs p.0 p.1)
    (or_cases (is_decimal_digit c) (is_point c && begins is_decimal_digit cs) e)

pub longest_is : (p : List ℕ → Bool) (cs : List ℕ) (n : ℕ) → IsBest p cs n → longest p cs ≡ n
unfolding longest
longest_is p cs n b = longest_within_is p cs (length cs) n b.within b.passes b.longest

no_empty : is_number [] ≡ false
unfolding is_number is_decimal is_radix is_float is_imaginary is_point_after is_point_before is_raised
no_empty = refl

pub best_more : (p : List ℕ → Bool) (cs : List ℕ) (n : ℕ) → IsBest p cs n → p [] ≡ false → 0 < n
best_more p cs zero b e = absurd (let h : p [] ≡ true = b.passes in let i : true ≡ false = sym h ∙ e in cc)
best_more p cs (suc n) b e = omega arith

pub longest_number : (cs : List ℕ) → begins_number cs ≡ true → longest is_number cs ≡ number_len cs
longest_number cs e = longest_is is_number cs (number_len cs) (number_best cs e)

pub longest_more : (cs : List ℕ) → begins_number cs ≡ true → 0 < longest is_number cs
longest_more cs e = rw (longest_number cs e) (best_more is_number cs (number_len cs) (number_best cs e) no_empty)
