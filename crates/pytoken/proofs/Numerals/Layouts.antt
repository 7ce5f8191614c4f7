-- Each layout of a float's digits has the parts of a number.
-- Carries: Lexemes. On: DigitRuns, Parts.
use Rattle.std.proofs.Common.{◌≡◌, ℕ, zero, suc, ◌+◌, ◌-◌, ◌<◌, Bool, true, false, List, [], ◌∷◌, ◌++◌, length, take, drop, refl, sym, ap}
use Rattle.std.proofs.Common.{inl, inr, arith, append-nil, append_assoc, true≢false, lt-ltb, le-ltb, le-leb}
use Rattle.std.specs.Prelude.{codes, decimal, if◌then◌else◌, nat_lt}
use Rattle.std.specs.Float.Ieee.{Float, nan, inf, fin}
use Rattle.std.proofs.lemmas.Bool.{or_right, cases_lt, lt-leb}
use Rattle.pylex_lexeme.specs.Numbers.{is_nil, optional, headed, is_e, is_sign}
use Rattle.pynumber.specs.Search.{exact_down, shortest_digits, shortest_up}
use Rattle.pynumber.specs.Layouts.{zeros, power_text, scientific, fixed, laid_out, number_text}
use Rattle.pynumber.specs.FloatTexts.{float_text}
use Rattle.pynumber.specs.Laws.{is_unsigned}
use Rattle.pytoken.proofs.Numerals.DigitRuns.{are_digits, some_append, append_some, some_take, some_drop, zeros_any, decimal_digits}
use Rattle.pytoken.proofs.Numerals.Parts.{HasParts, is_fraction, is_power}

-- what a whole number ends in, where it is of a float and where it is of an imaginary number
abbrev pub end_of : Bool → List ℕ
end_of float = if float then codes ".0" else []

power_digits : (power : ℕ) → are_digits (power_text power) ≡ true
power_digits power = elim (cases_lt power 10) [
  | inl less ↦ rw (lt-ltb power 10 less) (append_some (48 ∷ []) (decimal power) refl (decimal_digits power))
  | inr more ↦ rw (le-ltb power 10 more) (decimal_digits power)
]

-- digits alone, with the end
ended : (float : Bool) (ds : List ℕ) → are_digits ds ≡ true → HasParts float (ds ++ end_of float)
ended true ds h =
    record { whole = ds; fraction = codes ".0"; power = []; digits = h; pointed = refl; raised = refl; marked = λ e. refl; text = refl }
ended false ds h =
    let none : false ≡ true → is_nil [] ≡ false = λ e. absurd (true≢false (sym e)) in
    record { whole = ds; fraction = []; power = []; digits = h; pointed = refl; raised = refl; marked = none; text = refl }

-- a point among the digits, or before some
pointed : (float : Bool) (ds fs : List ℕ) → are_digits ds ≡ true → are_digits fs ≡ true → HasParts float (ds ++ 46 ∷ fs)
pointed float ds fs h k =
    let text : ds ++ 46 ∷ fs ≡ ds ++ 46 ∷ (fs ++ []) = ap (λ t. ds ++ 46 ∷ t) (sym (append-nil fs)) in
    record { whole = ds; fraction = 46 ∷ fs; power = []; digits = h; pointed = k; raised = refl; marked = λ e. refl; text = text }

fixed_parts : (float : Bool) (ds : List ℕ) (point : ℕ) → are_digits ds ≡ true → 0 < point → HasParts float (fixed ds point (end_of float))
fixed_parts float ds point h some = elim (cases_lt point (length ds)) [
  | inl less ↦
      rw (lt-ltb point (length ds) less)
      (pointed float (take point ds) (drop point ds) (some_take point ds some h) (some_drop point ds less h))
  | inr more ↦
      let k = point - length ds in
      rw (le-ltb point (length ds) more, ← append_assoc ds (zeros k) (end_of float))
      (ended float (ds ++ zeros k) (some_append ds (zeros k) h (zeros_any k)))
]

data IsSign : List ℕ → Type 0 where
  plus : IsSign (43 ∷ [])
  minus : IsSign (45 ∷ [])

signed_power : (sign ds : List ℕ) → IsSign sign → are_digits ds ≡ true → is_power (101 ∷ (sign ++ ds)) ≡ true
signed_power sign ds plus h = or_right (headed is_e are_digits (101 ∷ 43 ∷ ds)) (headed is_e (headed is_sign are_digits) (101 ∷ 43 ∷ ds)) h
signed_power sign ds minus h = or_right (headed is_e are_digits (101 ∷ 45 ∷ ds)) (headed is_e (headed is_sign are_digits) (101 ∷ 45 ∷ ds)) h

more_digits : (ds : List ℕ) → are_digits ds ≡ true
    → optional is_fraction (if nat_lt 1 (length ds) then codes "." ++ drop 1 ds else []) ≡ true
more_digits ds h = elim (cases_lt 1 (length ds)) [
  | inl more ↦ rw (lt-ltb 1 (length ds) more) (some_drop 1 ds more h)
  | inr one ↦ rw (le-ltb 1 (length ds) one) refl
]

never_nil : (xs ys : List ℕ) (c : ℕ) → is_nil (xs ++ c ∷ ys) ≡ false
never_nil [] ys c = refl
never_nil (x ∷ xs) ys c = refl

scientific_parts : (float : Bool) (ds sign : List ℕ) (power : ℕ) → are_digits ds ≡ true → IsSign sign
    → HasParts float (scientific ds sign power)
scientific_parts float ds sign power h mark =
    let f = if nat_lt 1 (length ds) then codes "." ++ drop 1 ds else [] in
    record {
      whole = take 1 ds;
      fraction = f;
      power = 101 ∷ (sign ++ power_text power);
      digits = some_take 1 ds (omega arith) h;
      pointed = more_digits ds h;
      raised = signed_power sign (power_text power) mark (power_digits power);
      marked = λ e. never_nil f (sign ++ power_text power) 101;
      text = refl;
    }

laid_parts : (float : Bool) (ds : List ℕ) (high down : ℕ) → are_digits ds ≡ true → HasParts float (laid_out ds high down (end_of float))
laid_parts float ds high down h = elim (cases_lt down high) [
  | inl above ↦ elim (cases_lt 16 (high - down)) [
    | inl far ↦
        rw (lt-ltb down high above, lt-leb (high - down) 16 far) (scientific_parts float ds (43 ∷ []) (high - down - 1) h plus)
    | inr near ↦ rw (lt-ltb down high above, le-leb (high - down) 16 near) (fixed_parts float ds (high - down) h (omega arith))
  ]
  | inr below ↦ elim (cases_lt (down - high) 4) [
    | inl near ↦
        let k = down - high in
        rw (le-ltb down high below, lt-leb 4 k near)
        (pointed float (48 ∷ []) (zeros k ++ ds) refl (append_some (zeros k) ds (zeros_any k) h))
    | inr far ↦ rw (le-ltb down high below, le-leb 4 (down - high) far) (scientific_parts float ds (45 ∷ []) (down - high + 1) h minus)
  ]
]

number_parts : (float : Bool) (digits up down : ℕ) → HasParts float (number_text digits up down (end_of float))
unfolding number_text
number_parts float digits up down = laid_parts float (decimal digits) (length (decimal digits) + up) down (decimal_digits digits)

-- the text of a double that is not below 0, where the text of infinity has the parts of a number
pub float_parts : (float : Bool) (x : Float) (infinity : List ℕ) → is_unsigned x ≡ true → HasParts float infinity
    → HasParts float (float_text x (end_of float) infinity)
unfolding float_text
float_parts float nan infinity h p = absurd (true≢false (sym h))
float_parts float (inf s) infinity h p = p
float_parts float (fin s zero e) infinity h p = ended float (48 ∷ []) refl
float_parts float (fin s (suc m) e) infinity h p =
    let x = fin s (suc m) e in
    number_parts float (shortest_digits x) (shortest_up x) (exact_down x)

-- infinity, as a literal that is too large
pub infinity_parts : (float : Bool) → HasParts float (codes "1e309")
infinity_parts float =
    record {
      whole = codes "1";
      fraction = [];
      power = codes "e309";
      digits = refl;
      pointed = refl;
      raised = refl;
      marked =
          λ e. refl;
      text = refl;
    }
