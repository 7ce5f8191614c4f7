-- Texts among the values of a JoinedStr.
--
-- Carries: end_values. On: Pushes.
use Rattle.std.proofs.Common.{◌≡◌, refl, sym, ap, ◌∙◌, ℕ, List, [], ◌∷◌, ◌++◌, map, length, ◌==◌, Bool, false}
use Rattle.pytree_node.specs.Trees
use Rattle.pytree_node.specs.Values
use Rattle.pytree_node.specs.TreeOf.{tree_of}
use Rattle.pytree_node.specs.declared.expressions.Expr as given
use Rattle.pyparse_nodes.specs.JoinedStates.{constants}
use Rattle.pyparse_nodes.proofs.Callers.Pushes.{pushed}

pub is_full : (t : List ℕ) (b : Bool) → b ≡ (length t == 0) → b ≡ false → t ≡ [] → ⊥
is_full [] b q f e = cc
is_full (c ∷ t) b q f e = cc

filled : (u : Bool) (t : List ℕ) → (t ≡ [] → ⊥) → constants u t ≡ Trees.Constant (Values.Str t u) ∷ []
filled u [] h = absurd (h refl)
filled u (c ∷ t) h = refl

pub put_constant : (xs ys : List given.Expr) (e : given.Expr) (u : Bool) (t : List ℕ) → ys ≡ xs ++ (e ∷ [])
    → tree_of e ≡ Trees.Constant (Values.Str t u) → (t ≡ [] → ⊥) → map tree_of ys ≡ map tree_of xs ++ constants u t
put_constant xs ys e u t q h n = pushed xs ys e q ∙ ap (λ z. map tree_of xs ++ (z ∷ [])) h
    ∙ ap (λ z. map tree_of xs ++ z) (sym (filled u t n))
