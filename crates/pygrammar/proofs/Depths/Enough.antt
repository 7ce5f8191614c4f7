-- As many expressions inside one another as the terminals count are enough.
--
-- Carries: Good, good_read, good_reads, good_kept, good_first, for Room, Answered, With, Whole and 3 more. On: Related.
use Rattle.std.proofs.Common.{◌≡◌, refl, ℕ, zero, suc, ◌≤◌, ◌<◌, arith, List, [], ◌∷◌, length, Option, Some, None}
use Rattle.pygrammar.specs.Lengths.{weight}
use Rattle.pygrammar.proofs.Depths.Weights.{Heavy, counted, weight_most}
use Rattle.pygrammar.specs.declared.levels.Level.{Level}
use Rattle.pytoken.specs.Terminals.{Terminal}
use Rattle.pygrammar.specs.Reader.{Answer, Found, NoForm, TooDeep, and_then, on_some, on_first, Reads, levels_from, read, reads}
use Rattle.pygrammar.proofs.Related.Rules.{Relation, Kept}
use Rattle.pygrammar.proofs.Related.Levels.{r_descend}

abbrev pub Good : {A : Type 0} → ℕ → Answer A → Type 0
Good n (Found a r) = weight r < n
Good n NoForm = Unit {0}
Good n TooDeep = ⊥

pub good_then : {A B : Type 0} (m n : ℕ) (x : Answer A) (k : A → List Terminal → Answer B) → Good m x
    → ((a : A) (r : List Terminal) → weight r < m → Good n (k a r)) → Good n (and_then x k)
good_then m n (Found a r) k g h = h a r g
good_then m n NoForm k g h = tt
good_then m n TooDeep k g h = g

abbrev pub GoodOf : Relation
GoodOf A s t n x y = Good n x

pub good_kept : Kept GoodOf
good_kept = record {
  finds = λ A s t n a r f w. w;
  refuses = λ A s t n. tt;
  goes = λ A B s u t m n x y k j g h. good_then m n x k g (λ a r w. h 0 a r (omega arith) w);
  joins = λ A B s u t m n x y k j g h. good_then m n x k g (λ a r w. h 0 a r (omega arith) w);
}

abbrev pub GoodTo : ℕ → Reads → Type 0
GoodTo n self = (l : Level) (i : List Terminal) → weight i < n → Good (weight i) (self l i)

-- a depth above what the terminals count is enough
pub good_read : (d : ℕ) → GoodTo d (read d)
good_read zero l i w = absurd (omega (arith, w))
good_read (suc d) l i w = r_descend good_kept (read d) (read d) d (good_read d) (good_read d) (levels_from l) l i w

-- the plain reader always has it
pub good_reads : (b : ℕ) → GoodTo b reads
good_reads b l i w = good_read (suc (length i)) l i (omega (arith, weight_most i))

-- ---- Tools.
pub good_first : {A B : Type 0} (n : ℕ) (f : Terminal → Option A) → Heavy f → (r : List Terminal) (k : A → List Terminal → Answer B)
    (x : Answer B) → ((a : A) (s : List Terminal) → suc (weight s) ≤ weight r → Good n (k a s)) → Good n x → Good n (on_first f r k x)
good_first n f v [] k x h g = g
good_first {A} {B} n f v (t ∷ r) k x h g = go (f t) refl
  where
    go : (o : Option A) → f t ≡ o → Good {A = B} n (on_some o (λ a. k a r) x)
    go (Some a) e = h a r (omega (arith, counted t r (v t a e)))
    go None e = g
