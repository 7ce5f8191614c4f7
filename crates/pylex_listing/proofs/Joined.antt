-- Lists that are joined.
--
-- Carries: drop_of, scalars_of, for Callers.
use Rattle.std.proofs.Common.{◌≡◌, ℕ, true, List, [], ◌∷◌, ◌++◌, length, drop, refl}
use Rattle.std.specs.Str.{all_scalars}
use Rattle.std.proofs.Math.Utf8.{scalar}
use Rattle.std.proofs.lemmas.Bool.{and_from, and_parts}

pub drop_of : (a b : List ℕ) → drop (length a) (a ++ b) ≡ b
drop_of [] b = refl
drop_of (c ∷ a) b = drop_of a b

pub scalars_of : (t b : List ℕ) → all_scalars (t ++ b) ≡ true → all_scalars t ≡ true
scalars_of [] b h = refl
scalars_of (c ∷ t) b h = let parts = and_parts (scalar c) (all_scalars (t ++ b)) h in
    and_from (scalar c) (all_scalars t) parts.0 (scalars_of t b parts.1)
