-- A whole number of any size in decimal.
-- Carries: Lexemes. On: DigitRuns.
use Rattle.std.proofs.Common.{◌≡◌, ℕ, zero, suc, ◌+◌, ◌*◌, ◌<◌, ◌≤◌, ◌⊎◌, true, false, List, [], ◌∷◌, get_or, map}
use Rattle.std.proofs.Common.{refl, ap, ◌∙◌, inl, inr, arith, ne_eqb}
use Rattle.std.specs.Prelude.{◌||◌, ◌==◌, nat_le, filter}
use Rattle.std.specs.Char.{digit_value}
use Rattle.std.specs.Int.Digits.{digits_of, number_from_digits_after, AllBelowBase}
use Rattle.std.specs.Str.Parse.{AllDigits, digits_value, digits_value_after}
use Rattle.std.proofs.lemmas.Bool.{and_from, or_right, le-leb}
use Rattle.std.proofs.lemmas.Int.Digits.{all_below_base_digits_of, first_digits_of, number_digits_of}
use Rattle.std.proofs.lemmas.Str.{digit_value_digit}
use Rattle.std.proofs.lemmas.Str.Parse.{digit_from_value}
use Rattle.pylex_lexeme.specs.Numbers.{headed, are_joined, is_zero, is_one_to_nine, is_decimal_digit, is_decimal}
use Rattle.pynumber.specs.Decimals.{decimal_text, digit_character}
use Rattle.pynumber.specs.Readings.{written, is_no_underscore}
use Rattle.pytoken.specs.NumberValues.{radix_of, whole_value}
use Rattle.pytoken.proofs.Numerals.DigitRuns.{are_digits, are_any, all_joined, digit_range}

-- Decimal digits

-- digits alone: no letter, no underscore, no point
digit_not : (c k : ℕ) → (48 ≤ c) × (c ≤ 57) → (k < 48) ⊎ (57 < k) → (c == k) ≡ false
digit_not c k h (inl low) = ne_eqb c k (λ e. absurd (omega (arith, e, h.0)))
digit_not c k h (inr high) = ne_eqb c k (λ e. absurd (omega (arith, e, h.1)))

digits_radix : (ds : List ℕ) → AllDigits 10 ds → radix_of ds ≡ 10
digits_radix [] all = refl
digits_radix (a ∷ []) all = refl
digits_radix (a ∷ b ∷ ds) all =
    let d = digit_from_value b all.1.0 in
    let x = digit_not b 120 d (inr (omega arith)) in
    let x' = digit_not b 88 d (inr (omega arith)) in
    let o = digit_not b 111 d (inr (omega arith)) in
    let o' = digit_not b 79 d (inr (omega arith)) in
    let b' = digit_not b 98 d (inr (omega arith)) in
    let b'' = digit_not b 66 d (inr (omega arith)) in
    rw (x, x', o, o', b', b'') refl

digits_kept : (ds : List ℕ) → AllDigits 10 ds → filter is_no_underscore ds ≡ ds
digits_kept [] all = refl
digits_kept (a ∷ ds) all =
    let no_line = digit_not a 95 (digit_from_value a all.0) (inr (omega arith)) in
    rw no_line (ap (λ (t : List ℕ). a ∷ t) (digits_kept ds all.1))

digits_written : (ds : List ℕ) → AllDigits 10 ds → written 10 ds ≡ digits_value 10 ds
unfolding written
digits_written ds all = ap (digits_value 10) (digits_kept ds all)

digits_whole : (ds : List ℕ) → AllDigits 10 ds → whole_value ds ≡ digits_value 10 ds
unfolding whole_value
digits_whole ds all = let r = digits_radix ds all in rw r (digits_written ds all)

-- The two forms of the text

zero_text : (n : ℕ) → n ≡ 0 → decimal_text n ≡ 48 ∷ []
unfolding decimal_text
zero_text n e = rw e refl

some_text : (n : ℕ) → 0 < n → decimal_text n ≡ map digit_character (digits_of 10 n)
unfolding decimal_text
some_text n h = rw (ne_eqb n 0 (λ e. omega arith)) refl

-- what holds of 0 and of the digits of each number above it holds of each text
by_forms : (P : ℕ → List ℕ → Type 0) → P 0 (48 ∷ []) → ((n : ℕ) → 0 < n → P n (map digit_character (digits_of 10 n)))
    → (n : ℕ) → P n (decimal_text n)
by_forms P none some zero = rw (zero_text 0 refl) none
by_forms P none some (suc n) = rw (some_text (suc n) (omega arith)) (some (suc n) (omega arith))

-- Its characters

characters_any : (ds : List ℕ) → AllBelowBase 10 ds → are_any (map digit_character ds) ≡ true
characters_any [] h = refl
characters_any (d ∷ ds) h = and_from (is_decimal_digit (48 + d)) (are_any (map digit_character ds))
    (digit_range d h.0) (characters_any ds h.1)

value_of : (d : ℕ) → d < 10 → digit_value (48 + d) ≡ d
value_of d h = omega (arith, digit_value_digit (48 + d) (omega arith, omega arith))

characters_all : (ds : List ℕ) → AllBelowBase 10 ds → AllDigits 10 (map digit_character ds)
characters_all [] h = tt
characters_all (d ∷ ds) h = (omega (arith, value_of d h.0, h.0), characters_all ds h.1)

characters_value : (n : ℕ) (ds : List ℕ) → AllBelowBase 10 ds
    → digits_value_after 10 n (map digit_character ds) ≡ number_from_digits_after 10 n ds
characters_value n [] h = refl
characters_value n (d ∷ ds) h =
    ap (λ v. digits_value_after 10 (n * 10 + v) (map digit_character ds)) (value_of d h.0) ∙ characters_value (n * 10 + d) ds h.1

-- A decimal literal

below : (n : ℕ) → AllBelowBase 10 (digits_of 10 n)
below n = all_below_base_digits_of 10 n (omega arith)

led : (ds : List ℕ) → AllBelowBase 10 ds → 0 < get_or ds 0 0 → headed is_one_to_nine (are_joined is_decimal_digit)
    (map digit_character ds) ≡ true
led [] h l = absurd (omega arith)
led (d ∷ ds) h l =
    and_from (is_one_to_nine (48 + d)) (are_joined is_decimal_digit (map digit_character ds))
    (and_from (nat_le 49 (48 + d)) (nat_le (48 + d) 57) (le-leb 49 (48 + d) (omega arith)) (le-leb (48 + d) 57 (omega (arith, h.0))))
    (all_joined is_decimal_digit (map digit_character ds) (characters_any ds h.1))

pub text_decimal : (n : ℕ) → is_decimal (decimal_text n) ≡ true
unfolding is_decimal
text_decimal =
    by_forms (λ n t. (headed is_zero (are_joined is_zero) t || headed is_one_to_nine (are_joined is_decimal_digit) t) ≡ true) refl
    (λ n some. let t = map digit_character (digits_of 10 n) in
    or_right (headed is_zero (are_joined is_zero) t) (headed is_one_to_nine (are_joined is_decimal_digit) t)
    (led (digits_of 10 n) (below n) (first_digits_of 10 n (omega arith) some)))

pub text_digits : (n : ℕ) → are_digits (decimal_text n) ≡ true
text_digits =
    by_forms (λ n t. are_digits t ≡ true) refl (λ n some. first (digits_of 10 n) (below n) (first_digits_of 10 n (omega arith) some))
  where
    first : (ds : List ℕ) → AllBelowBase 10 ds → 0 < get_or ds 0 0 → are_digits (map digit_character ds) ≡ true
    first [] h l = absurd (omega arith)
    first (d ∷ ds) h l = characters_any (d ∷ ds) h

-- that stands for the number

text_all : (n : ℕ) → AllDigits 10 (decimal_text n)
text_all = by_forms (λ n t. AllDigits 10 t) (omega arith, tt) (λ n some. characters_all (digits_of 10 n) (below n))

text_value : (n : ℕ) → digits_value 10 (decimal_text n) ≡ n
text_value =
    by_forms (λ n t. digits_value 10 t ≡ n) refl
    (λ n some. characters_value 0 (digits_of 10 n) (below n) ∙ number_digits_of 10 n (omega arith))

pub text_whole : (n : ℕ) → whole_value (decimal_text n) ≡ n
text_whole n = digits_whole (decimal_text n) (text_all n) ∙ text_value n
