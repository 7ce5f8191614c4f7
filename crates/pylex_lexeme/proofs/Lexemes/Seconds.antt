-- Operators by their second characters.
--
-- Carries: longest_operator, sign. On: OperatorLengths, Classes, Joined.
use Rattle.std.proofs.Common.{◌≡◌, ℕ, Bool, false, ◌&&◌, ◌||◌, ◌==◌, List, [], ◌∷◌, refl, sym, ◌∙◌, ap, Some, eqb, slice_get, drop}
use Rattle.std.specs.Prelude.{option_map}
use Rattle.std.specs.List.{list_any}
use Rattle.std.specs.Str.{bytes_eq}
use Rattle.std.proofs.lemmas.Bool.{and_right, or_parts}
use Rattle.pylex_lexeme.specs.Operators.{is_operator, exact_of}
use Rattle.pylex_lexeme.specs.Lengths.{operator_at, pair_at}
use Rattle.pylex_lexeme.proofs.Lexemes.Classes.{words, by_words}
use Rattle.pylex_lexeme.proofs.Lexemes.OperatorLengths.{exact_off, two_at, pair_at_three, at_one}

abbrev seconds : List (List ℕ) → List ℕ
seconds [] = []
seconds ([] ∷ os) = seconds os
seconds ((x ∷ []) ∷ os) = seconds os
seconds ((x ∷ y ∷ o) ∷ os) = y ∷ seconds os

-- no text of a list has another second character
no_second : (a b : ℕ) (t : List ℕ) (os : List (List ℕ)) → list_any (eqb b) (seconds os) ≡ false → list_any (bytes_eq (a ∷ b ∷ t)) os ≡ false
no_second a b t [] e = refl
no_second a b t ([] ∷ os) e = no_second a b t os e
no_second a b t ((x ∷ []) ∷ os) e = let f = and_right (eqb a x) false refl in rw f (no_second a b t os e)
no_second a b t ((x ∷ y ∷ o) ∷ os) e =
    let p = or_parts (eqb b y) (list_any (eqb b) (seconds os)) e in
    let f : (eqb b y && bytes_eq t o) ≡ false = rw p.0 refl in
    let g = and_right (eqb a x) (eqb b y && bytes_eq t o) f in
    rw g (no_second a b t os p.1)

abbrev pub may_be_second : ℕ → Bool
may_be_second c = (c == 61) || ((c == 60) || ((c == 62) || ((c == 42) || ((c == 47) || (c == 46)))))

pub second_off : (a b : ℕ) (t : List ℕ) → may_be_second b ≡ false → is_operator (a ∷ b ∷ t) ≡ false
second_off a b t h =
    let p = or_parts (b == 61) _ h in
    let q = or_parts (b == 60) _ p.1 in
    let r = or_parts (b == 62) _ q.1 in
    let s = or_parts (b == 42) _ r.1 in
    let u = or_parts (b == 47) (b == 46) s.1 in
    let none : list_any (eqb b) (seconds words) ≡ false = rw (p.0, q.0, r.0, s.0, u.0, u.1) refl in
    by_words (a ∷ b ∷ t) ∙ no_second a b t words none

pair_alone : (a b : ℕ) → may_be_second b ≡ false → pair_at a b ≡ option_map (λ e. (e, 1)) (exact_of (a ∷ []))
pair_alone a b h = let e = exact_off (a ∷ b ∷ []) (second_off a b [] h) in rw (e, pair_at) refl

-- where no operator has the second character, the first alone is one or none is
pub alone_at : (cs t : List ℕ) (a b : ℕ) → cs ≡ a ∷ b ∷ t → may_be_second b ≡ false
    → option_map (λ e. (e, 1)) (exact_of (a ∷ [])) ≡ operator_at cs
alone_at cs [] a b e h = sym (pair_alone a b h) ∙ two_at cs a b e
alone_at cs (c ∷ t) a b e h = sym (pair_alone a b h)
    ∙ pair_at_three cs t a b c e (sym (exact_off (a ∷ b ∷ c ∷ []) (second_off a b (c ∷ []) h)))

-- what the steps of a reader say
pub begun_by : (cs l m : List ℕ) (a b : ℕ) → l ≡ cs → Some a ≡ slice_get l 0 → m ≡ drop 1 l → Some b ≡ slice_get m 0 → cs ≡ a ∷ b ∷ drop 1 m
begun_by cs l m a b e f g h = sym e ∙ at_one l a (sym f) ∙ ap (λ t. a ∷ t) (sym g ∙ at_one m b (sym h))
