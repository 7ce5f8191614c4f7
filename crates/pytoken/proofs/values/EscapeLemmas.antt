-- Escapes, by the letter after the backslash.
--
-- Carries: escape.
use Rattle.std.proofs.Common.{◌≡◌, ℕ, ◌<◌, ◌≤◌, Bool, true, false, List, ◌∷◌, drop, refl, sym, subst, ap, ◌∙◌, inl, inr, arith, Some}
use Rattle.std.proofs.Common.{None}
use Rattle.std.proofs.Common.{slice_get, is_some}
use Rattle.std.specs.Prelude.{◌==◌, nat_lt}
use Rattle.std.specs.Char.{digit_value, is_digit}
use Rattle.std.proofs.lemmas.Bool.{cases_Bool, eq-eqb, ne_eqb, lt-ltb, le-ltb}
use Rattle.pylex_lexeme.proofs.Callers.Lexemes.{at_none, at_one}
use Rattle.pytoken.specs.declared.meanings.Meaning.{Meaning}
use Rattle.pytoken.specs.declared.meanings.Meaning.TheVariants.{Point, Nothing, Wrong}
use Rattle.pytoken.specs.declared.faults.TokenError.TheVariants as errors
use Rattle.pytoken.specs.Escapes.{Reading, reads, octal, hexadecimal, hexadecimal_len, names_character, escape_point, digits_at_front}
use Rattle.pytoken.specs.Escapes.{escaped_by}
use Rattle.pytoken.specs.Inner.Readings.{ReadsEscape, first_digit}

pub takes_by : (r s : Reading) (old new : List ℕ) (m : Meaning) → r ≡ s → ReadsEscape s old m new → ReadsEscape r old m new
takes_by r s old new m e t = subst (λ (x : Reading). ReadsEscape x old m new) (sym e) t

pub by_end : (b : Bool) (t : List ℕ) → slice_get t 0 ≡ None → escaped_by b t ≡ reads (Point 92) 0
unfolding escaped_by
by_end b t e = let none = at_none t e in rw none refl

pub by_feed : (b : Bool) (c : ℕ) (t : List ℕ) → slice_get t 0 ≡ Some c → c ≡ 10 → escaped_by b t ≡ reads Nothing 1
unfolding escaped_by
by_feed b c t e is = ap (escaped_by b) (at_one t c e) ∙ (let test = eq-eqb c 10 is in rw test refl)

-- what stands here begins no escape of those so far
pub record NoOctal (c : ℕ) (t : List ℕ) : Type 0 where
  pub first : slice_get t 0 ≡ Some c
  pub no_feed : (c == 10) ≡ false
  pub no_digit : is_digit c 8 ≡ false

digit_here : (radix c : ℕ) (t : List ℕ) → is_some (first_digit radix (c ∷ t)) ≡ is_digit c radix
digit_here radix c t = elim (cases_Bool (nat_lt (digit_value c) radix)) [
  | inl digit ↦ rw digit refl
  | inr other ↦ rw other refl
]

digit_at : (radix c : ℕ) (t : List ℕ) (b : Bool) → slice_get t 0 ≡ Some c → is_some (first_digit radix t) ≡ b → is_digit c radix ≡ b
digit_at radix c t b e h = sym (digit_here radix c (drop 1 t)) ∙ sym (ap (λ (u : List ℕ). is_some (first_digit radix u)) (at_one t c e))
    ∙ h

pub by_octal : (b : Bool) (c : ℕ) (t : List ℕ) → slice_get t 0 ≡ Some c → (c ≡ 10 → ⊥) → is_some (first_digit 8 t) ≡ true →
    escaped_by b t ≡ octal b (digits_at_front 8 3 t)
unfolding escaped_by
by_octal b c t e no_feed some =
    let whole = at_one t c e in
    let feed = ne_eqb c 10 no_feed in
    let digit = digit_at 8 c t true e some in
    ap (escaped_by b) whole ∙ (rw (feed, digit) refl) ∙ ap (λ (u : List ℕ). octal b (digits_at_front 8 3 u)) (sym whole)

pub no_octal : (c : ℕ) (t : List ℕ) → slice_get t 0 ≡ Some c → (c ≡ 10 → ⊥) → is_some (first_digit 8 t) ≡ false → NoOctal c t
no_octal c t e no_feed none = record { first = e; no_feed = ne_eqb c 10 no_feed; no_digit = digit_at 8 c t false e none }

pub by_hexadecimal : (b : Bool) (c n : ℕ) (t : List ℕ) → NoOctal c t → n ≡ hexadecimal_len b c → 0 < n →
    escaped_by b t ≡ hexadecimal n (digits_at_front 16 n (drop 1 t))
unfolding escaped_by
by_hexadecimal b c n t h len some =
    let whole = at_one t c h.first in
    let feed = h.no_feed in
    let digit = h.no_digit in
    let asks : nat_lt 0 (hexadecimal_len b c) ≡ true = lt-ltb 0 (hexadecimal_len b c) (omega (arith, len)) in
    ap (escaped_by b) whole ∙ (rw (feed, digit, asks) refl) ∙ ap (λ (k : ℕ). hexadecimal k (digits_at_front 16 k (drop 1 t))) (sym len)

pub by_name : (b : Bool) (c n : ℕ) (t : List ℕ) → NoOctal c t → n ≡ hexadecimal_len b c → n ≤ 0 → names_character b c ≡ true →
    escaped_by b t ≡ reads (Wrong errors.NamedEscape) 1
unfolding escaped_by
by_name b c n t h len none name =
    let feed = h.no_feed in
    let digit = h.no_digit in
    let asks : nat_lt 0 (hexadecimal_len b c) ≡ false = le-ltb 0 (hexadecimal_len b c) (omega (arith, len)) in
    ap (escaped_by b) (at_one t c h.first) ∙ (rw (feed, digit, asks, name) refl)

pub by_letter : (b : Bool) (c n p : ℕ) (t : List ℕ) → NoOctal c t → n ≡ hexadecimal_len b c → n ≤ 0 → names_character b c ≡ false →
    escape_point c ≡ Some p → escaped_by b t ≡ reads (Point p) 1
unfolding escaped_by
by_letter b c n p t h len none name point =
    let feed = h.no_feed in
    let digit = h.no_digit in
    let asks : nat_lt 0 (hexadecimal_len b c) ≡ false = le-ltb 0 (hexadecimal_len b c) (omega (arith, len)) in
    ap (escaped_by b) (at_one t c h.first) ∙ (rw (feed, digit, asks, name, point) refl)

pub by_other : (b : Bool) (c n : ℕ) (t : List ℕ) → NoOctal c t → n ≡ hexadecimal_len b c → n ≤ 0 → names_character b c ≡ false →
    escape_point c ≡ None → escaped_by b t ≡ reads (Point 92) 0
unfolding escaped_by
by_other b c n t h len none name point =
    let feed = h.no_feed in
    let digit = h.no_digit in
    let asks : nat_lt 0 (hexadecimal_len b c) ≡ false = le-ltb 0 (hexadecimal_len b c) (omega (arith, len)) in
    ap (escaped_by b) (at_one t c h.first) ∙ (rw (feed, digit, asks, name, point) refl)
