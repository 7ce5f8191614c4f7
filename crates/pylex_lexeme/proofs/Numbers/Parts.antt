-- The longest parts of numbers.
--
-- Carries: ReadsAfter, then_reads, part_all, decimal_part and 12 more, for NumberBest,
-- StringLongest, InLine. On: Best, Taking, NumberSets, Joined and 2 more.
use Rattle.std.proofs.Common.{◌≡◌, ℕ, ◌+◌, ◌≤◌, ◌<◌, Bool, true, false, ◌&&◌, ◌||◌, List, [], ◌∷◌, length, drop, take, refl, ◌∙◌, arith}
use Rattle.std.proofs.Common.{zero, suc, ⊎_elim}
use Rattle.std.specs.List.{list_all}
use Rattle.std.proofs.lemmas.Bool.{cases_Bool, and_parts, or_cases}
use Rattle.pylex_lexeme.specs.Chars.{begins}
use Rattle.pylex_lexeme.specs.Numbers.{is_nil, split_any, optional, headed, are_joined, are_some, is_digit_part, is_exponent}
use Rattle.pylex_lexeme.specs.Numbers.{is_decimal_digit, is_zero, is_one_to_nine, is_hex_digit, is_octal_digit, is_binary_digit, is_e, is_j}
use Rattle.pylex_lexeme.specs.Numbers.{is_x, is_o, is_b, is_sign, is_radix, is_decimal}
use Rattle.pylex_lexeme.specs.Lengths.{joined_len, begins_some, based_len, radix_len, digit_part_len, exponent_len, j_len}
use Rattle.pylex_lexeme.proofs.Fronts.Longest.{IsBest}
use Rattle.pylex_lexeme.proofs.Fronts.Joined.{joined_best, joined_all, joined_subset, len_digit, some_best, some_none}
use Rattle.pylex_lexeme.proofs.Fronts.Best.{NoFront, Reads, Starts, then_best, then_none, optional_best, headed_best, headed_none}
use Rattle.pylex_lexeme.proofs.Fronts.Best.{headed_rest, headed_nil, or_left, or_right, or_none, none_above}
use Rattle.pylex_lexeme.proofs.Numbers.NumberSets.{in_run, not_j, run_not_e, digit_not_sign, either_not, zero_digit, one_digit, other_digit}
use Rattle.pylex_lexeme.proofs.Numbers.NumberSets.{not_both}
use Rattle.pylex_lexeme.proofs.Fronts.Taking.{exponent_none, exponent_digits, exponent_unsigned, exponent_empty, exponent_signed, j_none}
use Rattle.pylex_lexeme.proofs.Fronts.Taking.{j_some, radix_none, radix_x, radix_o, radix_b, radix_other, based_none, based_some}

-- Readings
pub reads_best : (p : List ℕ → Bool) (cs : List ℕ) (n k : ℕ) → n ≡ suc k → IsBest p cs (suc k) → Reads p cs n
reads_best p cs n k e b = rw e b

pub reads_none : (p : List ℕ → Bool) (cs : List ℕ) (n : ℕ) → n ≡ 0 → NoFront p cs → Reads p cs n
reads_none p cs n e f = rw e f

-- what is read after m characters
abbrev pub ReadsAfter : (List ℕ → Bool) → List ℕ → ℕ → ℕ → Type 0
ReadsAfter p cs m zero = NoFront p cs
ReadsAfter p cs m (suc n) = IsBest p cs (m + suc n)

pub then_reads : (p q : List ℕ → Bool) (a : ℕ → Bool) (cs : List ℕ) (m n : ℕ) → IsBest p cs m → list_all a (take m cs) ≡ true → Starts a q
    → Reads q (drop m cs) n → ReadsAfter (split_any p q) cs m n
then_reads p q a cs m zero b l s r = then_none p q a cs m b l s r
then_reads p q a cs m (suc n) b l s r = then_best p q a cs m (suc n) b l s r

-- Digits
pub part_best : (cs : List ℕ) → begins is_decimal_digit cs ≡ true → IsBest is_digit_part cs (joined_len is_decimal_digit cs)
part_best [] e = cc
part_best (c ∷ cs) e = rw (len_digit is_decimal_digit c cs e) (headed_best is_decimal_digit (are_joined is_decimal_digit) c cs
    (joined_len is_decimal_digit cs) e (joined_best is_decimal_digit cs))

pub part_none : (cs : List ℕ) → begins is_decimal_digit cs ≡ false → NoFront is_digit_part cs
part_none [] e = headed_nil is_decimal_digit (are_joined is_decimal_digit)
part_none (c ∷ cs) e = headed_none is_decimal_digit (are_joined is_decimal_digit) c cs e

pub part_reads : (cs : List ℕ) → Reads is_digit_part cs (digit_part_len cs)
unfolding digit_part_len
part_reads [] = headed_nil is_decimal_digit (are_joined is_decimal_digit)
part_reads (c ∷ cs) =
    ⊎_elim
    (λ (e : is_decimal_digit c ≡ true). rw e
    (rw (len_digit is_decimal_digit c cs e) (headed_best is_decimal_digit (are_joined is_decimal_digit) c cs
    (joined_len is_decimal_digit cs) e (joined_best is_decimal_digit cs))))
    (λ (e : is_decimal_digit c ≡ false). rw e (headed_none is_decimal_digit (are_joined is_decimal_digit) c cs e))
    (cases_Bool (is_decimal_digit c))

pub part_all : (a : ℕ → Bool) → ((c : ℕ) → is_decimal_digit c ≡ true → a c ≡ true) → a 95 ≡ true → (t : List ℕ)
    → is_digit_part t ≡ true → list_all a t ≡ true
part_all a f u [] e = refl
part_all a f u (c ∷ t) e =
    let p = and_parts (is_decimal_digit c) (are_joined is_decimal_digit t) e in
    let h : a c ≡ true = f c p.0 in
    rw h (joined_all a is_decimal_digit t f u p.1)

pub in_run_digit : (c : ℕ) → is_decimal_digit c ≡ true → in_run c ≡ true
in_run_digit c e = rw e refl

pub part_run : (t : List ℕ) → is_digit_part t ≡ true → list_all in_run t ≡ true
part_run t e = part_all in_run in_run_digit refl t e

-- Exponents
pub begins_not : (f g : ℕ → Bool) (cs : List ℕ) → ((c : ℕ) → f c ≡ true → g c ≡ false) → begins f cs ≡ true → begins g cs ≡ false
begins_not f g [] h e = refl
begins_not f g (c ∷ cs) h e = h c e

pub headed_part : (f : ℕ → Bool) (p : List ℕ → Bool) (cs : List ℕ) → begins f cs ≡ false → NoFront (headed f p) cs
headed_part f p [] e = headed_nil f p
headed_part f p (c ∷ cs) e = headed_none f p c cs e

pub exponent_reads : (cs : List ℕ) → Reads is_exponent cs (exponent_len cs)
unfolding is_exponent
exponent_reads [] = reads_none is_exponent [] (exponent_len []) (exponent_none [] refl)
    (or_none (headed is_e is_digit_part) (headed is_e (headed is_sign is_digit_part)) [] (headed_nil is_e is_digit_part)
    (headed_nil is_e (headed is_sign is_digit_part)))
exponent_reads (c ∷ cs) =
    ⊎_elim (with_e c cs)
    (λ (e : is_e c ≡ false). reads_none is_exponent (c ∷ cs) (exponent_len (c ∷ cs)) (exponent_none (c ∷ cs) e)
    (or_none (headed is_e is_digit_part) (headed is_e (headed is_sign is_digit_part)) (c ∷ cs) (headed_none is_e is_digit_part c cs e)
    (headed_none is_e (headed is_sign is_digit_part) c cs e)))
    (cases_Bool (is_e c))
  where
    signed : (c s : ℕ) (cs : List ℕ) → is_e c ≡ true → is_decimal_digit s ≡ false → is_sign s ≡ true → begins is_decimal_digit cs ≡ true
        → Reads is_exponent (c ∷ s ∷ cs) (exponent_len (c ∷ s ∷ cs))
    signed c s cs e d g h =
        let z : 2 + joined_len is_decimal_digit cs ≡ suc (suc (joined_len is_decimal_digit cs)) = omega arith in
        reads_best is_exponent (c ∷ s ∷ cs) (exponent_len (c ∷ s ∷ cs)) (suc (joined_len is_decimal_digit cs))
        (exponent_signed (c ∷ s ∷ cs) e d g h ∙ z)
        (or_right (headed is_e is_digit_part) (headed is_e (headed is_sign is_digit_part)) (c ∷ s ∷ cs)
        (suc (suc (joined_len is_decimal_digit cs)))
        (none_above (headed is_e is_digit_part) (c ∷ s ∷ cs) _ (headed_rest is_e is_digit_part c (s ∷ cs) (part_none (s ∷ cs) d)))
        (headed_best is_e (headed is_sign is_digit_part) c (s ∷ cs) (suc (joined_len is_decimal_digit cs)) e
        (headed_best is_sign is_digit_part s cs (joined_len is_decimal_digit cs) g (part_best cs h))))

    nothing : (c : ℕ) (cs : List ℕ) → exponent_len (c ∷ cs) ≡ 0 → NoFront is_digit_part cs → NoFront (headed is_sign is_digit_part) cs
        → Reads is_exponent (c ∷ cs) (exponent_len (c ∷ cs))
    nothing c cs z f g = reads_none is_exponent (c ∷ cs) (exponent_len (c ∷ cs)) z
        (or_none (headed is_e is_digit_part) (headed is_e (headed is_sign is_digit_part)) (c ∷ cs) (headed_rest is_e is_digit_part c cs f)
        (headed_rest is_e (headed is_sign is_digit_part) c cs g))

    unsigned : (c : ℕ) (cs : List ℕ) → is_e c ≡ true → begins is_decimal_digit cs ≡ false
        → Reads is_exponent (c ∷ cs) (exponent_len (c ∷ cs))
    unsigned c [] e d = nothing c [] (exponent_unsigned (c ∷ []) e d refl) (part_none [] d) (headed_nil is_sign is_digit_part)
    unsigned c (s ∷ cs) e d =
        ⊎_elim
        (λ (g : is_sign s ≡ true).
        ⊎_elim
        (λ (h : begins is_decimal_digit cs ≡ true). signed c s cs e d g h)
        (λ (h : begins is_decimal_digit cs ≡ false). nothing c (s ∷ cs) (exponent_empty (c ∷ s ∷ cs) e d g h) (part_none (s ∷ cs) d)
        (headed_rest is_sign is_digit_part s cs (part_none cs h)))
        (cases_Bool (begins is_decimal_digit cs)))
        (λ (g : is_sign s ≡ false). nothing c (s ∷ cs) (exponent_unsigned (c ∷ s ∷ cs) e d g) (part_none (s ∷ cs) d)
        (headed_none is_sign is_digit_part s cs g))
        (cases_Bool (is_sign s))

    digits : (c : ℕ) (cs : List ℕ) → is_e c ≡ true → begins is_decimal_digit cs ≡ true → Reads is_exponent (c ∷ cs) (exponent_len (c ∷ cs))
    digits c cs e h =
        let z : 1 + joined_len is_decimal_digit cs ≡ suc (joined_len is_decimal_digit cs) = omega arith in
        reads_best is_exponent (c ∷ cs) (exponent_len (c ∷ cs)) (joined_len is_decimal_digit cs) (exponent_digits (c ∷ cs) e h ∙ z)
        (or_left (headed is_e is_digit_part) (headed is_e (headed is_sign is_digit_part)) (c ∷ cs) (suc (joined_len is_decimal_digit cs))
        (headed_best is_e is_digit_part c cs (joined_len is_decimal_digit cs) e (part_best cs h))
        (none_above (headed is_e (headed is_sign is_digit_part)) (c ∷ cs) _ (headed_rest is_e (headed is_sign is_digit_part) c cs
        (headed_part is_sign is_digit_part cs (begins_not is_decimal_digit is_sign cs digit_not_sign h)))))

    with_e : (c : ℕ) (cs : List ℕ) → is_e c ≡ true → Reads is_exponent (c ∷ cs) (exponent_len (c ∷ cs))
    with_e c cs e = ⊎_elim (digits c cs e) (unsigned c cs e) (cases_Bool (begins is_decimal_digit cs))

pub exponent_starts : Starts in_run is_exponent
unfolding is_exponent
exponent_starts c t e = let h : is_e c ≡ false = run_not_e c e in rw h refl

-- The letter j
nil_best : (cs : List ℕ) → IsBest is_nil cs 0
nil_best cs = record { within = omega arith; passes = refl; longest = longer cs }
  where
    longer : (cs : List ℕ) (j : ℕ) → 0 < j → j ≤ length cs → is_nil (take j cs) ≡ false
    longer cs zero a b = absurd (omega arith)
    longer [] (suc j) a b = absurd (omega arith)
    longer (c ∷ cs) (suc j) a b = refl

pub j_reads : (cs : List ℕ) → Reads (headed is_j is_nil) cs (j_len cs)
j_reads [] = reads_none (headed is_j is_nil) [] (j_len []) (j_none [] refl) (headed_nil is_j is_nil)
j_reads (c ∷ cs) =
    ⊎_elim
    (λ (e : is_j c ≡ true). reads_best (headed is_j is_nil) (c ∷ cs) (j_len (c ∷ cs)) 0 (j_some (c ∷ cs) e)
    (headed_best is_j is_nil c cs 0 e (nil_best cs)))
    (λ (e : is_j c ≡ false). reads_none (headed is_j is_nil) (c ∷ cs) (j_len (c ∷ cs)) (j_none (c ∷ cs) e) (headed_none is_j is_nil c cs e))
    (cases_Bool (is_j c))

pub j_starts : Starts not_j (headed is_j is_nil)
j_starts c t e = ⊎_elim (λ (h : is_j c ≡ true). let i : false ≡ true = simp h at e in cc)
    (λ (h : is_j c ≡ false). rw h refl) (cases_Bool (is_j c))

-- What follows a point
pub after_point : (cs : List ℕ) → IsBest (split_any (optional is_digit_part) (optional is_exponent)) cs
    (digit_part_len cs + exponent_len (drop (digit_part_len cs) cs))
after_point cs =
    let b = optional_best is_digit_part cs (digit_part_len cs) (part_reads cs) in
    then_best (optional is_digit_part) (optional is_exponent) in_run cs (digit_part_len cs) (exponent_len (drop (digit_part_len cs) cs)) b
    (optional_run (take (digit_part_len cs) cs) b.passes) exponent_starts
    (optional_best is_exponent (drop (digit_part_len cs) cs) (exponent_len (drop (digit_part_len cs) cs))
    (exponent_reads (drop (digit_part_len cs) cs)))
  where
    optional_run : (t : List ℕ) → optional is_digit_part t ≡ true → list_all in_run t ≡ true
    optional_run [] e = refl
    optional_run (c ∷ t) e = part_run (c ∷ t) e

-- Numbers of another radix
based_reads : (f d : ℕ → Bool) (z c : ℕ) (cs : List ℕ) → is_zero z ≡ true → f c ≡ true
    → Reads (headed is_zero (headed f (are_some d))) (z ∷ c ∷ cs) (based_len d cs)
based_reads f d z c cs e g =
    ⊎_elim
    (λ (h : begins_some d cs ≡ true).
    let k : 2 + joined_len d cs ≡ suc (suc (joined_len d cs)) = omega arith in
    reads_best (headed is_zero (headed f (are_some d))) (z ∷ c ∷ cs) (based_len d cs) (suc (joined_len d cs)) (based_some d cs h ∙ k)
    (headed_best is_zero (headed f (are_some d)) z (c ∷ cs) (suc (joined_len d cs)) e
    (headed_best f (are_some d) c cs (joined_len d cs) g (some_best d cs h))))
    (λ (h : begins_some d cs ≡ false).
    reads_none (headed is_zero (headed f (are_some d))) (z ∷ c ∷ cs) (based_len d cs) (based_none d cs h)
    (headed_rest is_zero (headed f (are_some d)) z (c ∷ cs) (headed_rest f (are_some d) c cs (some_none d cs h))))
    (cases_Bool (begins_some d cs))

-- the first of three alone
reads_first : (p q r : List ℕ → Bool) (cs : List ℕ) (n : ℕ) → Reads p cs n → NoFront q cs → NoFront r cs
    → Reads (λ t. p t || q t || r t) cs n
reads_first p q r cs zero a b c = or_none (λ t. p t || q t) r cs (or_none p q cs a b) c
reads_first p q r cs (suc n) a b c =
    or_left (λ t. p t || q t) r cs (suc n) (or_left p q cs (suc n) a (none_above q cs _ b)) (none_above r cs _ c)

reads_second : (p q r : List ℕ → Bool) (cs : List ℕ) (n : ℕ) → NoFront p cs → Reads q cs n → NoFront r cs
    → Reads (λ t. p t || q t || r t) cs n
reads_second p q r cs zero a b c = or_none (λ t. p t || q t) r cs (or_none p q cs a b) c
reads_second p q r cs (suc n) a b c =
    or_left (λ t. p t || q t) r cs (suc n) (or_right p q cs (suc n) (none_above p cs _ a) b) (none_above r cs _ c)

reads_third : (p q r : List ℕ → Bool) (cs : List ℕ) (n : ℕ) → NoFront p cs → NoFront q cs → Reads r cs n
    → Reads (λ t. p t || q t || r t) cs n
reads_third p q r cs zero a b c = or_none (λ t. p t || q t) r cs (or_none p q cs a b) c
reads_third p q r cs (suc n) a b c = or_right (λ t. p t || q t) r cs (suc n) (none_above (λ t. p t || q t) cs _ (or_none p q cs a b)) c

abbrev hex : List ℕ → Bool
hex t = headed is_zero (headed is_x (are_some is_hex_digit)) t

abbrev octal : List ℕ → Bool
octal t = headed is_zero (headed is_o (are_some is_octal_digit)) t

abbrev binary : List ℕ → Bool
binary t = headed is_zero (headed is_b (are_some is_binary_digit)) t

letter_none : (f : ℕ → Bool) (p : List ℕ → Bool) (z c : ℕ) (cs : List ℕ) → f c ≡ false → NoFront (headed is_zero (headed f p)) (z ∷ c ∷ cs)
letter_none f p z c cs e = headed_rest is_zero (headed f p) z (c ∷ cs) (headed_none f p c cs e)

all_none : (cs : List ℕ) → NoFront hex cs → NoFront octal cs → NoFront binary cs → radix_len cs ≡ 0 → Reads is_radix cs (radix_len cs)
unfolding is_radix
all_none cs a b c e = reads_none is_radix cs (radix_len cs) e (or_none (λ t. hex t || octal t) binary cs (or_none hex octal cs a b) c)

short_none : (f : ℕ → Bool) (p : List ℕ → Bool) (z : ℕ) → NoFront (headed is_zero (headed f p)) (z ∷ [])
short_none f p z = headed_rest is_zero (headed f p) z [] (headed_nil f p)

pub radix_reads : (cs : List ℕ) → Reads is_radix cs (radix_len cs)
unfolding is_radix
radix_reads [] = all_none [] (headed_nil is_zero _) (headed_nil is_zero _) (headed_nil is_zero _) (radix_none [] refl)
radix_reads (z ∷ cs) =
    ⊎_elim (with_zero z cs)
    (λ (e : is_zero z ≡ false). all_none (z ∷ cs) (headed_none is_zero _ z cs e) (headed_none is_zero _ z cs e)
    (headed_none is_zero _ z cs e) (radix_none (z ∷ cs) e))
    (cases_Bool (is_zero z))
  where
    with_zero : (z : ℕ) (cs : List ℕ) → is_zero z ≡ true → Reads is_radix (z ∷ cs) (radix_len (z ∷ cs))
    with_zero z [] e = all_none (z ∷ []) (short_none is_x _ z) (short_none is_o _ z) (short_none is_b _ z)
        (radix_other (z ∷ []) e refl refl refl)
    with_zero z (c ∷ cs) e =
        ⊎_elim
        (λ (f : is_x c ≡ true).
        let o : is_o c ≡ false = either_not is_o 120 88 c f refl refl in
        let b : is_b c ≡ false = either_not is_b 120 88 c f refl refl in
        rw (radix_x (z ∷ c ∷ cs) e f) (reads_first hex octal binary (z ∷ c ∷ cs) (based_len is_hex_digit cs)
        (based_reads is_x is_hex_digit z c cs e f) (letter_none is_o _ z c cs o) (letter_none is_b _ z c cs b)))
        (λ (f : is_x c ≡ false).
        ⊎_elim
        (λ (g : is_o c ≡ true).
        let b : is_b c ≡ false = either_not is_b 111 79 c g refl refl in
        rw (radix_o (z ∷ c ∷ cs) e f g) (reads_second hex octal binary (z ∷ c ∷ cs) (based_len is_octal_digit cs)
        (letter_none is_x _ z c cs f) (based_reads is_o is_octal_digit z c cs e g) (letter_none is_b _ z c cs b)))
        (λ (g : is_o c ≡ false).
        ⊎_elim
        (λ (h : is_b c ≡ true). rw (radix_b (z ∷ c ∷ cs) e f g h) (reads_third hex octal binary (z ∷ c ∷ cs) (based_len is_binary_digit cs)
        (letter_none is_x _ z c cs f) (letter_none is_o _ z c cs g) (based_reads is_b is_binary_digit z c cs e h)))
        (λ (h : is_b c ≡ false). all_none (z ∷ c ∷ cs) (letter_none is_x _ z c cs f) (letter_none is_o _ z c cs g)
        (letter_none is_b _ z c cs h) (radix_other (z ∷ c ∷ cs) e f g h))
        (cases_Bool (is_b c)))
        (cases_Bool (is_o c)))
        (cases_Bool (is_x c))

-- Decimal numbers
pub decimal_part : (t : List ℕ) → is_decimal t ≡ true → is_digit_part t ≡ true
unfolding is_decimal
decimal_part [] e = cc
decimal_part (c ∷ t) e =
    ⊎_elim
    (λ (h : (is_zero c && are_joined is_zero t) ≡ true).
    let p = and_parts (is_zero c) (are_joined is_zero t) h in
    let g : is_decimal_digit c ≡ true = zero_digit c p.0 in
    let i : are_joined is_decimal_digit t ≡ true = joined_subset is_zero is_decimal_digit t zero_digit refl p.1 in
    rw (g, i) refl)
    (λ (h : (is_one_to_nine c && are_joined is_decimal_digit t) ≡ true).
    let p = and_parts (is_one_to_nine c) (are_joined is_decimal_digit t) h in
    let g : is_decimal_digit c ≡ true = one_digit c p.0 in
    rw (g, p.1) refl)
    (or_cases (is_zero c && are_joined is_zero t) (is_one_to_nine c && are_joined is_decimal_digit t) e)

pub zeros_best : (cs : List ℕ) → begins is_zero cs ≡ true → IsBest is_decimal cs (joined_len is_zero cs)
unfolding is_decimal
zeros_best [] e = cc
zeros_best (c ∷ cs) e =
    rw (len_digit is_zero c cs e)
    (or_left (headed is_zero (are_joined is_zero)) (headed is_one_to_nine (are_joined is_decimal_digit)) (c ∷ cs)
    (suc (joined_len is_zero cs))
    (headed_best is_zero (are_joined is_zero) c cs (joined_len is_zero cs) e (joined_best is_zero cs))
    (none_above (headed is_one_to_nine (are_joined is_decimal_digit)) (c ∷ cs) _
    (headed_none is_one_to_nine (are_joined is_decimal_digit) c cs (not_both c e))))

pub whole_best : (cs : List ℕ) → begins is_decimal_digit cs ≡ true → begins is_zero cs ≡ false
    → IsBest is_decimal cs (joined_len is_decimal_digit cs)
unfolding is_decimal
whole_best [] d e = cc
whole_best (c ∷ cs) d e =
    rw (len_digit is_decimal_digit c cs d)
    (or_right (headed is_zero (are_joined is_zero)) (headed is_one_to_nine (are_joined is_decimal_digit)) (c ∷ cs)
    (suc (joined_len is_decimal_digit cs))
    (none_above (headed is_zero (are_joined is_zero)) (c ∷ cs) _ (headed_none is_zero (are_joined is_zero) c cs e))
    (headed_best is_one_to_nine (are_joined is_decimal_digit) c cs (joined_len is_decimal_digit cs) (other_digit c d e)
    (joined_best is_decimal_digit cs)))
