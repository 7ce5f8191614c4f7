-- The levels of a cursor, by those above 0.
--
-- Carries: from_ground. On: LevelLemmas.
use Rattle.std.proofs.Common.{◌≡◌, ℕ, zero, suc, ◌+◌, ◌^◌, ◌<◌, List, [], ◌∷◌, length, get_or, refl, arith, Fits, w64}
use Rattle.std.proofs.lemmas.List.Elements.{All-from_get_or}
use Rattle.pylex.specs.CursorTexts.{AreLevels}
use Rattle.pylex.specs.LineState.{IsAscending}
use Rattle.pylex.proofs.Levels.LevelLemmas.{are_levels}

each_larger : (n : ℕ) (ms : List ℕ) (k : ℕ) → IsAscending n ms → k + 1 < length (n ∷ ms) → get_or (n ∷ ms) k 0 < get_or (n ∷ ms) (k + 1) 0
each_larger n [] k h w = absurd (omega arith)
each_larger n (m ∷ ms) zero h w = h.0
each_larger n (m ∷ ms) (suc k) h w = let z : suc k + 1 ≡ suc (k + 1) = omega arith in rw z (each_larger m ms k h.1 (omega arith))

small_levels : (ms : List ℕ) → ((i : ℕ) → Fits w64 (get_or ms i 0)) → (i : ℕ) → i < length (0 ∷ ms) → get_or (0 ∷ ms) i 0 < 2 ^ 64
small_levels ms f zero h = omega arith
small_levels ms f (suc i) h = let g = f i in omega arith

pub ground_levels : (ms : List ℕ) → IsAscending 0 ms → ((i : ℕ) → Fits w64 (get_or ms i 0)) → AreLevels (0 ∷ ms)
ground_levels ms h f = are_levels (0 ∷ ms) (omega arith) (λ _. refl) (λ k. each_larger 0 ms k h)
    (All-from_get_or (λ n. n < 2 ^ 64) (0 ∷ ms) 0 (small_levels ms f))
