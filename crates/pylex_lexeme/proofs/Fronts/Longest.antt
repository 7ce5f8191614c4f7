-- The longest front of a text that passes a test.
--
-- Carries: IsBest, longest_within_is, longest_within_none, run_best, for Union, StringLongest,
-- NumberBest, Best and 5 more.
use Rattle.std.proofs.Common.{◌≡◌, ℕ, ◌≤◌, ◌<◌, Bool, true, false, List, [], ◌∷◌, length, take, refl, sym, subst, arith, add_comm, add-one}
use Rattle.std.proofs.Common.{zero, suc, ◌⊎◌, ⊎_elim, ◌+◌}
use Rattle.std.specs.List.{prefix_len, list_all}
use Rattle.std.proofs.lemmas.Bool.{cases_Bool}
use Rattle.pylex_lexeme.specs.Lexemes.{longest_within}

-- n is the length of the longest front that passes
pub record IsBest (p : List ℕ → Bool) (cs : List ℕ) (n : ℕ) : Type 0 where
  pub within : n ≤ length cs
  pub passes : p (take n cs) ≡ true
  pub longest : (j : ℕ) → n < j → j ≤ length cs → p (take j cs) ≡ false

le_cases : (n m : ℕ) → n ≤ suc m → (n ≡ suc m) ⊎ (n ≤ m)
le_cases n m h = grind arith

pub longest_within_is : (p : List ℕ → Bool) (cs : List ℕ) (m n : ℕ) → n ≤ m → p (take n cs) ≡ true
    → ((j : ℕ) → n < j → j ≤ m → p (take j cs) ≡ false) → longest_within p cs m ≡ n
longest_within_is p cs zero n h e f = omega arith
longest_within_is p cs (suc m) n h e f =
    ⊎_elim
    (λ (same : n ≡ suc m). let g : p (take (suc m) cs) ≡ true = subst (λ (i : ℕ). p (take i cs) ≡ true) same e in rw g (sym same))
    (λ (less : n ≤ m). let g : p (take (suc m) cs) ≡ false = f (suc m) (omega arith) (omega arith) in
    rw g (longest_within_is p cs m n less e (λ j a b. f j a (omega arith))))
    (le_cases n m h)

pub longest_within_none : (p : List ℕ → Bool) (cs : List ℕ) (m : ℕ) → ((j : ℕ) → 0 < j → j ≤ m → p (take j cs) ≡ false)
    → longest_within p cs m ≡ 0
longest_within_none p cs zero f = refl
longest_within_none p cs (suc m) f = let g : p (take (suc m) cs) ≡ false = f (suc m) (omega arith) (omega arith) in
    rw g (longest_within_none p cs m (λ j a b. f j a (omega arith)))

-- The characters at the front that pass: a longer front doesn't pass.
run_fails : (p : ℕ → Bool) (cs : List ℕ) (j : ℕ) → prefix_len p cs < j → j ≤ length cs → list_all p (take j cs) ≡ false
run_fails p [] j a b = absurd (omega arith)
run_fails p (c ∷ cs) zero a b = absurd (omega arith)
run_fails p (c ∷ cs) (suc j) a b =
    ⊎_elim
    (λ (e : p c ≡ true). let l : 1 + prefix_len p cs < suc j = simp e at a in rw e (run_fails p cs j (omega arith) (omega arith)))
    (λ (e : p c ≡ false). rw e refl)
    (cases_Bool (p c))

pub run_passes : (p : ℕ → Bool) (cs : List ℕ) → list_all p (take (prefix_len p cs) cs) ≡ true
run_passes p [] = refl
run_passes p (c ∷ cs) =
    ⊎_elim
    (λ (e : p c ≡ true). rw (e, add_comm, add-one) (rw e (run_passes p cs)))
    (λ (e : p c ≡ false). rw e refl)
    (cases_Bool (p c))

run_le : (p : ℕ → Bool) (cs : List ℕ) → prefix_len p cs ≤ length cs
run_le p [] = omega arith
run_le p (c ∷ cs) =
    ⊎_elim
    (λ (e : p c ≡ true). let h = run_le p cs in rw e (omega arith))
    (λ (e : p c ≡ false). rw e (omega arith))
    (cases_Bool (p c))

pub run_best : (p : ℕ → Bool) (cs : List ℕ) → IsBest (list_all p) cs (prefix_len p cs)
run_best p cs = record { within = run_le p cs; passes = run_passes p cs; longest = run_fails p cs }
