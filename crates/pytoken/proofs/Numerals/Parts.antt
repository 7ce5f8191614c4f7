-- Texts of digits with a fraction and a power of ten: floats, and what stands before the j of imaginary numbers.
-- Carries: Layouts, Lexemes. On: DigitRuns.
use Rattle.std.proofs.Common.{◌≡◌, ℕ, Bool, true, false, List, [], ◌∷◌, ◌++◌, refl, sym, subst, inl, inr, append-nil, true≢false}
use Rattle.std.specs.Prelude.{◌||◌, ◌&&◌}
use Rattle.std.proofs.lemmas.Bool.{and_from, and_parts, or_left, or_right, or_cases}
use Rattle.pylex_lexeme.specs.Numbers.{is_nil, split_any, optional, headed, is_point, is_e, is_j, is_sign, is_digit_part, is_exponent}
use Rattle.pylex_lexeme.specs.Numbers.{is_point_after, is_point_before, is_raised, is_float, is_imaginary}
use Rattle.pytoken.proofs.Numerals.DigitRuns.{are_digits, digits_part}

-- a point and digits
abbrev pub is_fraction : List ℕ → Bool
is_fraction t = headed is_point are_digits t

-- an e, perhaps a sign, and digits
abbrev pub is_power : List ℕ → Bool
is_power t = headed is_e are_digits t || headed is_e (headed is_sign are_digits) t

-- The text is digits, perhaps a fraction, and perhaps a power of ten; it has one of the two where it is of a float.
pub record HasParts (float : Bool) (t : List ℕ) : Type 0 where
  pub whole : List ℕ
  pub fraction : List ℕ
  pub power : List ℕ
  pub digits : are_digits whole ≡ true
  pub pointed : optional is_fraction fraction ≡ true
  pub raised : optional is_power power ≡ true
  pub marked : float ≡ true → is_nil (fraction ++ power) ≡ false
  pub text : t ≡ whole ++ (fraction ++ power)

-- Texts one after another

split_at : (p q : List ℕ → Bool) (u v : List ℕ) → p u ≡ true → q v ≡ true → split_any p q (u ++ v) ≡ true
split_at p q [] [] h k = and_from (p []) (q []) h k
split_at p q [] (c ∷ v) h k = or_left (p [] && q (c ∷ v)) (split_any (λ t. p (c ∷ t)) q v) (and_from (p []) (q (c ∷ v)) h k)
split_at p q (c ∷ u) v h k = or_right (p [] && q (c ∷ (u ++ v))) (split_any (λ t. p (c ∷ t)) q (u ++ v))
    (split_at (λ t. p (c ∷ t)) q u v h k)

headed_more : (f : ℕ → Bool) (p q : List ℕ → Bool) → ((u : List ℕ) → p u ≡ true → q u ≡ true)
    → (t : List ℕ) → headed f p t ≡ true → headed f q t ≡ true
headed_more f p q more [] h = h
headed_more f p q more (c ∷ t) h = let parts = and_parts (f c) (p t) h in and_from (f c) (q t) parts.0 (more t parts.1)

optional_more : (p q : List ℕ → Bool) → ((u : List ℕ) → p u ≡ true → q u ≡ true)
    → (t : List ℕ) → optional p t ≡ true → optional q t ≡ true
optional_more p q more [] h = refl
optional_more p q more (c ∷ t) h = more (c ∷ t) h

-- Floats and digitparts

power_exponent : (t : List ℕ) → is_power t ≡ true → is_exponent t ≡ true
unfolding is_exponent
power_exponent t h = elim (or_cases (headed is_e are_digits t) (headed is_e (headed is_sign are_digits) t) h) [
  | inl bare ↦
      or_left (headed is_e is_digit_part t) (headed is_e (headed is_sign is_digit_part) t)
      (headed_more is_e are_digits is_digit_part digits_part t bare)
  | inr signed ↦
      let following_sign = headed_more is_sign are_digits is_digit_part digits_part in
      or_right (headed is_e is_digit_part t) (headed is_e (headed is_sign is_digit_part) t)
      (headed_more is_e (headed is_sign are_digits) (headed is_sign is_digit_part) following_sign t signed)
]

raised_float : (w x : List ℕ) → are_digits w ≡ true → is_power x ≡ true → is_float (w ++ x) ≡ true
unfolding is_float is_raised
raised_float w x h k =
    or_right (is_point_after (w ++ x) || is_point_before (w ++ x)) (is_raised (w ++ x))
    (split_at is_digit_part is_exponent w x (digits_part w h) (power_exponent x k))

abbrev following_point : List ℕ → Bool
following_point t = split_any (optional is_digit_part) (optional is_exponent) t

pointed_rest : (f x : List ℕ) → is_fraction f ≡ true → optional is_power x ≡ true → headed is_point following_point (f ++ x) ≡ true
pointed_rest [] x h k = absurd (true≢false (sym h))
pointed_rest (c ∷ f) x h k =
    let parts = and_parts (is_point c) (are_digits f) h in
    and_from (is_point c) (following_point (f ++ x)) parts.0
    (split_at (optional is_digit_part) (optional is_exponent) f x (some f parts.1) (optional_more is_power is_exponent power_exponent x k))
  where
    some : (f : List ℕ) → are_digits f ≡ true → optional is_digit_part f ≡ true
    some [] h = refl
    some (d ∷ f) h = digits_part (d ∷ f) h

pointed_float : (w f x : List ℕ) → are_digits w ≡ true → is_fraction f ≡ true → optional is_power x ≡ true → is_float (w ++ (f ++ x)) ≡ true
unfolding is_float is_point_after
pointed_float w f x h k l =
    let t = w ++ (f ++ x) in
    or_left (is_point_after t || is_point_before t) (is_raised t)
    (or_left (is_point_after t) (is_point_before t)
    (split_at is_digit_part (headed is_point following_point) w (f ++ x) (digits_part w h) (pointed_rest f x k l)))

float_of : (w f x : List ℕ) → are_digits w ≡ true → optional is_fraction f ≡ true → optional is_power x ≡ true → is_nil (f ++ x) ≡ false
    → is_float (w ++ (f ++ x)) ≡ true
float_of w [] [] h k l some = absurd (true≢false some)
float_of w [] (d ∷ x) h k l some = raised_float w (d ∷ x) h l
float_of w (c ∷ f) x h k l some = pointed_float w (c ∷ f) x h k l

pub parts_float : (t : List ℕ) → HasParts true t → is_float t ≡ true
parts_float t p =
    subst (λ u. is_float u ≡ true) (sym p.text) (float_of p.whole p.fraction p.power p.digits p.pointed p.raised (p.marked refl))

abbrev before_j : List ℕ → Bool
before_j t = is_digit_part t || is_float t

before_of : (w f x : List ℕ) → are_digits w ≡ true → optional is_fraction f ≡ true → optional is_power x ≡ true
    → before_j (w ++ (f ++ x)) ≡ true
before_of w [] [] h k l =
    or_left (is_digit_part (w ++ [])) (is_float (w ++ [])) (subst (λ u. is_digit_part u ≡ true) (sym (append-nil w)) (digits_part w h))
before_of w [] (d ∷ x) h k l = or_right (is_digit_part (w ++ (d ∷ x))) (is_float (w ++ (d ∷ x))) (float_of w [] (d ∷ x) h k l refl)
before_of w (c ∷ f) x h k l = or_right (is_digit_part (w ++ (c ∷ f ++ x))) (is_float (w ++ (c ∷ f ++ x))) (float_of w (c ∷ f) x h k l refl)

pub parts_imaginary : (float : Bool) (t : List ℕ) → HasParts float t → is_imaginary (t ++ 106 ∷ []) ≡ true
unfolding is_imaginary
parts_imaginary float t p =
    let before : before_j t ≡ true = subst (λ u. before_j u ≡ true) (sym p.text)
    (before_of p.whole p.fraction p.power p.digits p.pointed p.raised) in
    split_at before_j (headed is_j is_nil) t (106 ∷ []) before refl
