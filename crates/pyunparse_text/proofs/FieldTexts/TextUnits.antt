-- What stands for a character of a text in an f-string is read off the front of the text as whole units (reference 2.4.3).
--
-- Carries: Units, units_own, units_pair, units_escape, units_both, for TextCharacters. On: no other file.
use Rattle.std.proofs.Common.{◌≡◌, ℕ, zero, suc, Bool, true, false, not, ◌&&◌, ◌==◌, List, [], ◌∷◌, ◌++◌, refl, sym, ◌∙◌, ap, subst}
use Rattle.std.proofs.Common.{append_assoc}
use Rattle.std.specs.List.{list_all}
use Rattle.std.proofs.lemmas.Bool.{not-true, and_parts}
use Rattle.pyfstring.specs.Texts.{is_brace, unit_len, units_after}
use Rattle.pyfstring.specs.Singles.{single_after}

-- whatever stands after it, w is whole units, and stands for v but for escapes, in a text that has pairs of braces or not
pub record Units (has_pairs : Bool) (w v : List ℕ) : Type 0 where
  pub passed : (r : List ℕ) → units_after false has_pairs 0 (w ++ r) ≡ units_after false has_pairs 0 r
  pub single : (r : List ℕ) → has_pairs ≡ true → single_after false 0 (w ++ r) ≡ v ++ single_after false 0 r

after_unit : (has_pairs : Bool) (c : ℕ) (r : List ℕ) (n : ℕ) → unit_len false has_pairs (c ∷ r) ≡ suc n
    → units_after false has_pairs 0 (c ∷ r) ≡ units_after false has_pairs n r
after_unit has_pairs c r n e =
    subst (λ (k : ℕ). elim k [ zero ↦ c ∷ r | suc m ↦ units_after false has_pairs m r ] ≡ units_after false has_pairs n r) (sym e) refl

single_brace : (c : ℕ) (r : List ℕ) (n : ℕ) → unit_len false true (c ∷ r) ≡ suc n → is_brace c ≡ true
    → single_after false 0 (c ∷ r) ≡ single_after false n r
single_brace c r n e b =
    subst (λ (k : ℕ). elim k [
      | zero ↦ []
      | suc m ↦ elim
          (is_brace c) [ true ↦ single_after false m r | false ↦ c ∷ single_after false m r ]
    ] ≡ single_after false n r) (sym e) (rw b refl)

single_other : (c : ℕ) (r : List ℕ) (n : ℕ) → unit_len false true (c ∷ r) ≡ suc n → is_brace c ≡ false
    → single_after false 0 (c ∷ r) ≡ c ∷ single_after false n r
single_other c r n e b =
    subst (λ (k : ℕ). elim k [
      | zero ↦ []
      | suc m ↦ elim
          (is_brace c) [ true ↦ single_after false m r | false ↦ c ∷ single_after false m r ]
    ] ≡ c ∷ single_after false n r) (sym e) (rw b refl)

-- ---- One character.

one_len : (has_pairs : Bool) (c : ℕ) (r : List ℕ) → (c == 92) ≡ false → is_brace c ≡ false → unit_len false has_pairs (c ∷ r) ≡ 1
unfolding unit_len
one_len true c r s b = rw (s, b) refl
one_len false c r s b = rw (s, b) refl

pub units_own : (has_pairs : Bool) (c : ℕ) → (c == 92) ≡ false → is_brace c ≡ false → Units has_pairs (c ∷ []) (c ∷ [])
units_own has_pairs c s b = record {
  passed = λ r. after_unit has_pairs c r 0 (one_len has_pairs c r s b);
  single = λ r h. single_other c r 0 (one_len true c r s b) b;
}

-- ---- Two braces.

pair_len : (c : ℕ) (r : List ℕ) → (c == 92) ≡ false → is_brace c ≡ true → (c == c) ≡ true → unit_len false true (c ∷ c ∷ r) ≡ 2
unfolding unit_len
pair_len c r s b e = rw (s, b, e) refl

pub units_pair : (c : ℕ) → (c == 92) ≡ false → is_brace c ≡ true → (c == c) ≡ true → Units true (c ∷ c ∷ []) (c ∷ [])
units_pair c s b e = record {
  passed = λ r. after_unit true c (c ∷ r) 1 (pair_len c r s b e);
  single = λ r h. single_brace c (c ∷ r) 1 (pair_len c r s b e) b;
}

-- ---- A backslash and a character.

escape_is : (has_pairs : Bool) (l : ℕ) (r : List ℕ) → is_brace l ≡ false → (l == 78) ≡ false → unit_len false has_pairs (92 ∷ l ∷ r) ≡ 2
unfolding unit_len
escape_is has_pairs l r b n = rw (b, n) refl

pub units_escape : (has_pairs : Bool) (l : ℕ) → is_brace l ≡ false → (l == 78) ≡ false → Units has_pairs (92 ∷ l ∷ []) (92 ∷ l ∷ [])
units_escape has_pairs l b n = record {
  passed = λ r. after_unit has_pairs 92 (l ∷ r) 1 (escape_is has_pairs l r b n);
  single = λ r h. single_other 92 (l ∷ r) 1 (escape_is true l r b n) refl;
}

-- ---- One after another.

pub units_none : (has_pairs : Bool) → Units has_pairs [] []
units_none has_pairs = record { passed = λ r. refl; single = λ r h. refl }

pub units_both : {has_pairs : Bool} {w v : List ℕ} (x y : List ℕ) → Units has_pairs w v → Units has_pairs x y
    → Units has_pairs (w ++ x) (v ++ y)
units_both {has_pairs} {w} {v} x y a b = record {
  passed = λ r. ap (units_after false has_pairs 0) (append_assoc w x r) ∙ a.passed (x ++ r) ∙ b.passed r;
  single = λ r h.
      ap (single_after false 0) (append_assoc w x r) ∙ a.single (x ++ r) h ∙ ap (λ u. v ++ u) (b.single r h)
      ∙ sym (append_assoc v y (single_after false 0 r));
}

-- characters that are neither backslashes nor braces
abbrev pub is_unit : ℕ → Bool
is_unit c = not (c == 92) && not (is_brace c)

pub units_all : (has_pairs : Bool) (t : List ℕ) → list_all is_unit t ≡ true → Units has_pairs t t
units_all has_pairs [] a = units_none has_pairs
units_all has_pairs (c ∷ t) a =
    let p = and_parts (is_unit c) (list_all is_unit t) a in
    let q = and_parts (not (c == 92)) (not (is_brace c)) p.0 in
    units_both t t (units_own has_pairs c (not-true (c == 92) q.0) (not-true (is_brace c) q.1)) (units_all has_pairs t p.1)
