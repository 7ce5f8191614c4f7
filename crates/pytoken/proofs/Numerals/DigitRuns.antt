-- Runs of decimal digits, and those that std writes for a number of any size.
-- Carries: Parts, Layouts, WholeTexts, Ends, Lexing.
use Rattle.std.proofs.Common.{◌≡◌, ℕ, zero, suc, ◌+◌, ◌/◌, ◌%◌, ◌<◌, Bool, true, false, List, [], ◌∷◌, ◌++◌, length, take, drop, refl, ◌∙◌}
use Rattle.std.proofs.Common.{inl, inr, arith, length-append, length-drop}
use Rattle.std.specs.Prelude.{◌==◌, nat_le, decimal}
use Rattle.std.specs.Fmt.{digits, digits_onto, digit_glyph}
use Rattle.std.specs.List.{list_all}
use Rattle.std.proofs.lemmas.Bool.{and_from, and_parts, cases_Bool, le-leb}
use Rattle.std.proofs.lemmas.Bool.Decides.{nat_tests}
use Rattle.std.proofs.lemmas.List.Folds.{list_all-append}
use Rattle.pylex_lexeme.specs.Numbers.{headed, are_joined, is_decimal_digit, is_digit_part}
use Rattle.pynumber.specs.Layouts.{zeros}

-- one decimal digit or more, and nothing else
abbrev pub are_digits : List ℕ → Bool
are_digits t = headed is_decimal_digit (list_all is_decimal_digit) t

-- digits, or none
abbrev pub are_any : List ℕ → Bool
are_any t = list_all is_decimal_digit t

pub any_of : (t : List ℕ) → are_digits t ≡ true → are_any t ≡ true
any_of [] h = refl
any_of (c ∷ t) h = h

pub some_of : (t : List ℕ) → 0 < length t → are_any t ≡ true → are_digits t ≡ true
some_of [] l h = absurd (omega arith)
some_of (c ∷ t) l h = h

pub some_long : (t : List ℕ) → are_digits t ≡ true → 0 < length t
some_long [] h = cc
some_long (c ∷ t) h = omega arith

-- A run of digits is what the grammar calls a digitpart

pub all_joined : (d : ℕ → Bool) (t : List ℕ) → list_all d t ≡ true → are_joined d t ≡ true
all_joined d [] h = refl
all_joined d (a ∷ []) h = (and_parts (d a) true h).0
all_joined d (a ∷ b ∷ t) h =
    let p = and_parts (d a) (list_all d (b ∷ t)) h in
    rw p.0 (all_joined d (b ∷ t) p.1)

pub digits_part : (t : List ℕ) → are_digits t ≡ true → is_digit_part t ≡ true
digits_part [] h = h
digits_part (c ∷ t) h =
    let p = and_parts (is_decimal_digit c) (are_any t) h in
    and_from (is_decimal_digit c) (are_joined is_decimal_digit t) p.0 (all_joined is_decimal_digit t p.1)

-- Fronts, rests and sums of runs

pub any_append : (xs ys : List ℕ) → are_any xs ≡ true → are_any ys ≡ true → are_any (xs ++ ys) ≡ true
any_append xs ys p q = list_all-append is_decimal_digit xs ys ∙ and_from (are_any xs) (are_any ys) p q

pub some_append : (xs ys : List ℕ) → are_digits xs ≡ true → are_any ys ≡ true → are_digits (xs ++ ys) ≡ true
some_append xs ys p q = some_of (xs ++ ys) (omega (arith, some_long xs p, length-append xs ys)) (any_append xs ys (any_of xs p) q)

pub append_some : (xs ys : List ℕ) → are_any xs ≡ true → are_digits ys ≡ true → are_digits (xs ++ ys) ≡ true
append_some xs ys p q = some_of (xs ++ ys) (omega (arith, some_long ys q, length-append xs ys)) (any_append xs ys p (any_of ys q))

any_take : (n : ℕ) (t : List ℕ) → are_any t ≡ true → are_any (take n t) ≡ true
any_take zero t h = refl
any_take (suc n) [] h = refl
any_take (suc n) (c ∷ t) h =
    let p = and_parts (is_decimal_digit c) (are_any t) h in
    and_from (is_decimal_digit c) (are_any (take n t)) p.0 (any_take n t p.1)

any_drop : (n : ℕ) (t : List ℕ) → are_any t ≡ true → are_any (drop n t) ≡ true
any_drop zero t h = h
any_drop (suc n) [] h = refl
any_drop (suc n) (c ∷ t) h = any_drop n t (and_parts (is_decimal_digit c) (are_any t) h).1

pub some_take : (n : ℕ) (t : List ℕ) → 0 < n → are_digits t ≡ true → are_digits (take n t) ≡ true
some_take zero t l h = absurd (omega arith)
some_take (suc n) [] l h = h
some_take (suc n) (c ∷ t) l h = any_take (suc n) (c ∷ t) h

pub some_drop : (n : ℕ) (t : List ℕ) → n < length t → are_digits t ≡ true → are_digits (drop n t) ≡ true
some_drop n t l h = some_of (drop n t) (omega (arith, length-drop n t)) (any_drop n t (any_of t h))

pub zeros_any : (n : ℕ) → are_any (zeros n) ≡ true
zeros_any zero = refl
zeros_any (suc n) = zeros_any n

-- What std writes for a number, of which it writes 64 digits at most

pub digit_range : (d : ℕ) → d < 10 → is_decimal_digit (48 + d) ≡ true
digit_range d h = and_from (nat_le 48 (48 + d)) (nat_le (48 + d) 57) (le-leb 48 (48 + d) (omega arith)) (le-leb (48 + d) 57 (omega arith))

glyph_digit : (d : ℕ) → d < 10 → is_decimal_digit (digit_glyph false d) ≡ true
glyph_digit d h = grind (arith, nat_tests)

one_more : (n : ℕ) (acc : List ℕ) → are_any acc ≡ true → are_digits (digit_glyph false (n % 10) ∷ acc) ≡ true
one_more n acc h = and_from (is_decimal_digit (digit_glyph false (n % 10))) (are_any acc) (glyph_digit (n % 10) (omega arith)) h

onto_digits : (k n : ℕ) (acc : List ℕ) → are_any acc ≡ true → are_digits (digits_onto (suc k) 10 false n acc) ≡ true
onto_digits zero n acc h = let one = one_more n acc h in elim (cases_Bool (n / 10 == 0)) [ inl z ↦ rw z one | inr z ↦ rw z one ]
onto_digits (suc k) n acc h =
    let one = one_more n acc h in
    elim (cases_Bool (n / 10 == 0)) [ inl z ↦ rw z one | inr z ↦ rw z (onto_digits k (n / 10) (digit_glyph false (n % 10) ∷ acc) one) ]

pub decimal_digits : (n : ℕ) → are_digits (decimal n) ≡ true
unfolding digits
decimal_digits n = onto_digits 63 n [] refl
