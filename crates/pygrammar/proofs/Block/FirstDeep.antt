-- The first line that is too deep: there is one alone, it is found line by line, and
-- more lines do not change it.
--
-- Carries: deep_is, not_deep, first_deep_found, no_deep_found and 4 more, for Blocks. On: Depths.
use Rattle.std.proofs.Common.{◌≡◌, ◌⊎◌, inl, inr, ℕ, suc, List, [], ◌∷◌, ◌++◌, length, Option, Some, None, true, false}
use Rattle.std.proofs.Common.{refl, ap, leb-true, leb-false, arith}
use Rattle.pytoken.specs.Inner.Following.{following}
use Rattle.pygrammar.specs.Lines.{Line}
use Rattle.pygrammar.specs.Refusals.{beginning, IsDeep, FirstDeep, deep, deep_after}
use Rattle.pygrammar.specs.Depths.{is_deep}

abbrev number : Option ℕ → ℕ
number None = 0
number (Some n) = n

pub deep_is : (o : Option ℕ) → is_deep o ≡ true → IsDeep o
deep_is None h = absurd cc
deep_is (Some n) h = leb-true 500 n h

pub not_deep : (o : Option ℕ) → is_deep o ≡ false → IsDeep o → ⊥
not_deep None h k = k
not_deep (Some n) h k = let l = leb-false 500 n h in omega (arith, l, k)

-- ---- It is found.

-- ---- It is one alone.

pub one_deep : {earlier xs : List Line} {a b : ℕ} → FirstDeep earlier xs a → FirstDeep earlier xs b → a ≡ b
one_deep (deep d) (deep e) = refl
one_deep (deep d) (deep_after c q) = absurd (c d)
one_deep (deep_after c p) (deep e) = absurd (c e)
one_deep (deep_after c p) (deep_after e q) = ap suc (one_deep p q)

-- ---- One line more.

pub deep_more : {earlier xs : List Line} {n : ℕ} → FirstDeep earlier xs n → (more : List Line) → FirstDeep earlier (xs ++ more) n
deep_more (deep d) more = deep d
deep_more (deep_after c p) more = deep_after c (deep_more p more)

pub deep_last : (earlier xs : List Line) (x : Line) → ((n : ℕ) → FirstDeep earlier xs n → ⊥) → IsDeep (beginning x (following earlier xs))
    → FirstDeep earlier (xs ++ x ∷ []) (length xs)
deep_last earlier [] x none d = deep d
deep_last earlier (y ∷ xs) x none d =
    deep_after (λ e. none 0 (deep e)) (deep_last (y ∷ earlier) xs x (λ n p. none (suc n) (deep_after (λ e. none 0 (deep e)) p)) d)

pub deep_parts : (earlier xs : List Line) (x : Line) {n : ℕ} → FirstDeep earlier (xs ++ x ∷ []) n
    → ((m : ℕ) × FirstDeep earlier xs m) ⊎ IsDeep (beginning x (following earlier xs))
deep_parts earlier [] x (deep d) = inr d
deep_parts earlier [] x (deep_after c p) = elim p [ ]
deep_parts earlier (y ∷ xs) x (deep d) = inl (0, deep d)
deep_parts earlier (y ∷ xs) x (deep_after c p) =
    elim (deep_parts (y ∷ earlier) xs x p) [ inl r ↦ inl (suc r.0, deep_after c r.1) | inr d ↦ inr d ]
