-- A text with one brace for each two, one unit after another.
-- Carries: single.
use Rattle.std.proofs.Common.{◌≡◌, ℕ, zero, suc, Bool, true, false, List, [], ◌∷◌, ◌++◌, take, drop, refl, sym, ap, ◌∙◌, subst, ◌⊎◌, inl}
use Rattle.std.proofs.Common.{inr}
use Rattle.std.specs.Prelude.{◌==◌, not}
use Rattle.std.proofs.lemmas.List.{take-append-drop}
use Rattle.std.proofs.lemmas.Bool.{cases_Bool, eqb-true, not-false}
use Rattle.pyfstring.specs.Texts.{is_brace, unit_len}
use Rattle.pyfstring.specs.Singles.{single_after, single}
use Rattle.pyfstring.specs.Cutting.{EndsWith, before}
use Rattle.pyfstring.specs.Inner.Passing.{after_brace}
use Rattle.pyfstring.proofs.Fronts.{before_is, ends_drop, ends_one}
use Rattle.pyfstring.proofs.Scanning.{some_unit}

stays : (is_raw : Bool) (n : ℕ) (cs : List ℕ) → single_after is_raw n cs ≡ take n cs ++ single_after is_raw 0 (drop n cs)
stays is_raw zero cs = refl
stays is_raw (suc n) [] = refl
stays is_raw (suc n) (c ∷ cs) = ap (λ x. c ∷ x) (stays is_raw n cs)

-- what the unit at the front is made
pub record IsUnit (is_raw : Bool) (cs : List ℕ) : Type 0 where
  pub ends : EndsWith (after_brace cs) (drop (unit_len is_raw true cs) cs)
  pub same : single is_raw cs ≡ before (after_brace cs) (drop (unit_len is_raw true cs) cs) ++ single is_raw
      (drop (unit_len is_raw true cs) cs)

nothing_unit : (is_raw : Bool) → unit_len is_raw true [] ≡ 0
unfolding unit_len
nothing_unit true = refl
nothing_unit false = refl

pub unit_single : (is_raw : Bool) (cs : List ℕ) → not (unit_len is_raw true cs == 0) ≡ true → IsUnit is_raw cs
unfolding single
unit_single is_raw [] e = let z : not (unit_len is_raw true [] == 0) ≡ false = ap (λ (n : ℕ). not (n == 0)) (nothing_unit is_raw) in cc
unit_single is_raw (c ∷ cs) e = at (some_unit (unit_len is_raw true (c ∷ cs)) e) (cases_Bool (is_brace c))
  where
    at : ((m : ℕ) × (unit_len is_raw true (c ∷ cs) ≡ suc m)) → (is_brace c ≡ true) ⊎ (is_brace c ≡ false) → IsUnit is_raw (c ∷ cs)
    at (m, n) (inl b) =
        let back : after_brace (c ∷ cs) ≡ cs = rw b refl in
        let left : drop (unit_len is_raw true (c ∷ cs)) (c ∷ cs) ≡ drop m cs = ap (λ (k : ℕ). drop k (c ∷ cs)) n in
        let first : single_after is_raw 0 (c ∷ cs) ≡ single_after is_raw m cs =
        subst (λ (k : ℕ). elim k [
          | zero ↦ []
          | suc j ↦ elim (is_brace c) [
            | true ↦ single_after is_raw j cs
            | false ↦ c ∷ single_after is_raw j cs
          ]
        ] ≡ single_after is_raw m cs) (sym n)
        (subst (λ (t : Bool). elim t [ true ↦ single_after is_raw m cs | false ↦ c ∷ single_after is_raw m cs ] ≡ single_after
        is_raw m cs) (sym b) refl) in
        let kept : before (after_brace (c ∷ cs)) (drop (unit_len is_raw true (c ∷ cs)) (c ∷ cs)) ≡ take m cs =
        ap (λ x. before x (drop (unit_len is_raw true (c ∷ cs)) (c ∷ cs))) back ∙ ap (before cs) left
        ∙ before_is cs (take m cs) (drop m cs) (sym (take-append-drop m cs)) in
        let P : List ℕ → List ℕ → Type 0 = λ x y. EndsWith x y in
        record {
          ends = subst (λ (x : List ℕ). P x (drop (unit_len is_raw true (c ∷ cs)) (c ∷ cs))) (sym back)
              (subst (λ (y : List ℕ). P cs y) (sym left) (ends_drop m cs));
          same = first ∙ stays is_raw m cs ∙ ap (λ x. x ++ single_after is_raw 0 (drop m cs)) (sym kept)
              ∙ ap (λ (x : List ℕ). before (after_brace (c ∷ cs)) (drop (unit_len is_raw true (c ∷ cs)) (c ∷ cs)) ++
              single_after is_raw 0 x) (sym left);
        }
    at (m, n) (inr b) =
        let back : after_brace (c ∷ cs) ≡ c ∷ cs = rw b refl in
        let left : drop (unit_len is_raw true (c ∷ cs)) (c ∷ cs) ≡ drop m cs = ap (λ (k : ℕ). drop k (c ∷ cs)) n in
        let first : single_after is_raw 0 (c ∷ cs) ≡ c ∷ single_after is_raw m cs =
        subst (λ (k : ℕ). elim k [
          | zero ↦ []
          | suc j ↦ elim (is_brace c) [
            | true ↦ single_after is_raw j cs
            | false ↦ c ∷ single_after is_raw j cs
          ]
        ] ≡ c ∷ single_after is_raw m cs) (sym n)
        (subst (λ (t : Bool). elim t [ true ↦ single_after is_raw m cs | false ↦ c ∷ single_after is_raw m cs ] ≡ c ∷ single_after
        is_raw m cs) (sym b) refl) in
        let kept : before (after_brace (c ∷ cs)) (drop (unit_len is_raw true (c ∷ cs)) (c ∷ cs)) ≡ c ∷ take m cs =
        ap (λ x. before x (drop (unit_len is_raw true (c ∷ cs)) (c ∷ cs))) back ∙ ap (before (c ∷ cs)) left
        ∙ before_is (c ∷ cs) (c ∷ take m cs) (drop m cs) (ap (λ x. c ∷ x) (sym (take-append-drop m cs))) in
        let P : List ℕ → List ℕ → Type 0 = λ x y. EndsWith x y in
        record {
          ends = subst (λ (x : List ℕ). P x (drop (unit_len is_raw true (c ∷ cs)) (c ∷ cs))) (sym back)
              (subst (λ (y : List ℕ). P (c ∷ cs) y) (sym left) (ends_one c cs _ (ends_drop m cs)));
          same = first ∙ ap (λ x. c ∷ x) (stays is_raw m cs) ∙ ap (λ x. x ++ single_after is_raw 0 (drop m cs)) (sym kept)
              ∙ ap (λ (x : List ℕ). before (after_brace (c ∷ cs)) (drop (unit_len is_raw true (c ∷ cs)) (c ∷ cs)) ++
              single_after is_raw 0 x) (sym left);
        }

pub no_unit : (is_raw : Bool) (cs : List ℕ) → not (unit_len is_raw true cs == 0) ≡ false → single is_raw cs ≡ []
unfolding single
no_unit is_raw [] e = refl
no_unit is_raw (c ∷ cs) e =
    let z : unit_len is_raw true (c ∷ cs) ≡ 0 = eqb-true _ 0 (not-false (unit_len is_raw true (c ∷ cs) == 0) e) in
    subst (λ (k : ℕ). elim k [
      | zero ↦ []
      | suc j ↦ elim (is_brace c) [
        | true ↦ single_after is_raw j cs
        | false ↦ c ∷ single_after is_raw j cs
      ]
    ] ≡ []) (sym z) refl
