-- The first character and the last one of the texts that are written for numbers.
-- Carries: Lexemes. On: DigitRuns, Parts.
use Rattle.std.proofs.Common.{◌≡◌, ℕ, Bool, true, List, [], ◌∷◌, ◌++◌, refl, sym, subst, inl, inr, append-nil}
use Rattle.std.proofs.lemmas.Bool.{and_parts, or_left, false≢true, or_cases}
use Rattle.pylex_lexeme.specs.Chars.{begins}
use Rattle.pylex_lexeme.specs.Numbers.{optional, headed, is_decimal_digit, is_point, is_e, is_j, is_sign}
use Rattle.pytoken.specs.Numerals.{ends, is_digit_or_j}
use Rattle.pytoken.proofs.Numerals.DigitRuns.{are_digits, are_any}
use Rattle.pytoken.proofs.Numerals.Parts.{HasParts, is_fraction, is_power}

-- Ends in general

ends_after : (f : ℕ → Bool) (c : ℕ) (t : List ℕ) → ends f t ≡ true → ends f (c ∷ t) ≡ true
ends_after f c [] h = absurd (false≢true h)
ends_after f c (d ∷ t) h = h

pub ends_append : (f : ℕ → Bool) (u t : List ℕ) → ends f t ≡ true → ends f (u ++ t) ≡ true
ends_append f [] t h = h
ends_append f (c ∷ u) t h = ends_after f c (u ++ t) (ends_append f u t h)

-- what a text ends in is its last character
pub last_of : (f : ℕ → Bool) (t : List ℕ) → ends f t ≡ true → (front : List ℕ) × (c : ℕ) × (t ≡ front ++ c ∷ []) × (f c ≡ true)
last_of f [] h = absurd (false≢true h)
last_of f (c ∷ []) h = ([], c, refl, h)
last_of f (c ∷ d ∷ t) h = let (front, e, text, passes) = last_of f (d ∷ t) h in (c ∷ front, e, (λ i. c ∷ text i), passes)

ends_more : (f g : ℕ → Bool) → ((c : ℕ) → f c ≡ true → g c ≡ true) → (t : List ℕ) → ends f t ≡ true → ends g t ≡ true
ends_more f g more [] h = h
ends_more f g more (c ∷ []) h = more c h
ends_more f g more (c ∷ d ∷ t) h = ends_more f g more (d ∷ t) h

pub begins_append : (f : ℕ → Bool) (t u : List ℕ) → begins f t ≡ true → begins f (t ++ u) ≡ true
begins_append f [] u h = absurd (false≢true h)
begins_append f (c ∷ t) u h = h

-- Digits

pub digits_begin : (t : List ℕ) → are_digits t ≡ true → begins is_decimal_digit t ≡ true
digits_begin [] h = h
digits_begin (c ∷ t) h = (and_parts (is_decimal_digit c) (are_any t) h).0

digits_end : (t : List ℕ) → are_digits t ≡ true → ends is_decimal_digit t ≡ true
digits_end [] h = h
digits_end (c ∷ []) h = (and_parts (is_decimal_digit c) true h).0
digits_end (c ∷ d ∷ t) h = digits_end (d ∷ t) (and_parts (is_decimal_digit c) (are_any (d ∷ t)) h).1

pub digits_close : (t : List ℕ) → are_digits t ≡ true → ends is_digit_or_j t ≡ true
digits_close t h = ends_more is_decimal_digit is_digit_or_j (λ c e. or_left (is_decimal_digit c) (is_j c) e) t (digits_end t h)

-- Fractions and powers of ten

headed_end : (f : ℕ → Bool) (p : List ℕ → Bool) → ((t : List ℕ) → p t ≡ true → ends is_digit_or_j t ≡ true)
    → (t : List ℕ) → headed f p t ≡ true → ends is_digit_or_j t ≡ true
headed_end f p rest [] h = h
headed_end f p rest (c ∷ t) h = ends_after is_digit_or_j c t (rest t (and_parts (f c) (p t) h).1)

fraction_end : (t : List ℕ) → is_fraction t ≡ true → ends is_digit_or_j t ≡ true
fraction_end t h = headed_end is_point are_digits digits_close t h

power_end : (t : List ℕ) → is_power t ≡ true → ends is_digit_or_j t ≡ true
power_end t h = elim (or_cases (headed is_e are_digits t) (headed is_e (headed is_sign are_digits) t) h) [
  | inl bare ↦ headed_end is_e are_digits digits_close t bare
  | inr signed ↦ headed_end is_e (headed is_sign are_digits) (headed_end is_sign are_digits digits_close) t signed
]

-- Numbers

end_of_parts : (w f x : List ℕ) → are_digits w ≡ true → optional is_fraction f ≡ true → optional is_power x ≡ true
    → ends is_digit_or_j (w ++ (f ++ x)) ≡ true
end_of_parts w [] [] h k l = subst (λ t. ends is_digit_or_j t ≡ true) (sym (append-nil w)) (digits_close w h)
end_of_parts w [] (d ∷ x) h k l = ends_append is_digit_or_j w (d ∷ x) (power_end (d ∷ x) l)
end_of_parts w (c ∷ f) [] h k l =
    ends_append is_digit_or_j w ((c ∷ f) ++ [])
    (subst (λ t. ends is_digit_or_j t ≡ true) (sym (append-nil (c ∷ f))) (fraction_end (c ∷ f) k))
end_of_parts w (c ∷ f) (d ∷ x) h k l =
    ends_append is_digit_or_j w ((c ∷ f) ++ (d ∷ x)) (ends_append is_digit_or_j (c ∷ f) (d ∷ x) (power_end (d ∷ x) l))

pub parts_begin : (float : Bool) (t : List ℕ) → HasParts float t → begins is_decimal_digit t ≡ true
parts_begin float t p =
    subst (λ u. begins is_decimal_digit u ≡ true) (sym p.text)
    (begins_append is_decimal_digit p.whole (p.fraction ++ p.power) (digits_begin p.whole p.digits))

pub parts_end : (float : Bool) (t : List ℕ) → HasParts float t → ends is_digit_or_j t ≡ true
parts_end float t p =
    subst (λ u. ends is_digit_or_j u ≡ true) (sym p.text) (end_of_parts p.whole p.fraction p.power p.digits p.pointed p.raised)
