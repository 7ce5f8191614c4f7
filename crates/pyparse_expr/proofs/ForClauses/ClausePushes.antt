-- The clauses of a comprehension, with one more.
--
-- Carries: push_clause. On: TreeOf, Heights.
use Rattle.std.proofs.Common.{◌≡◌, ap, ◌∙◌, arith, ℕ, max, List, [], ◌∷◌, ◌++◌, map}
use Rattle.std.proofs.lemmas.List.{map-append}
use Rattle.pytree_node.specs.declared.expressions.Comprehension as given
use Rattle.pytree_node.specs.Trees.{Comprehension, comprehensions}
use Rattle.pytree_node.specs.TreeOf.{comprehension_of}
use Rattle.pytree_height.specs.Heights.{comprehension_heights}

pub clause_pushed : (xs ys : List given.Comprehension) (g : given.Comprehension) → ys ≡ xs ++ (g ∷ [])
    → map comprehension_of ys ≡ map comprehension_of xs ++ (comprehension_of g ∷ [])
clause_pushed xs ys g h = ap (λ l. map comprehension_of l) h ∙ map-append comprehension_of xs (g ∷ [])

higher : (gs : List Comprehension) (g : Comprehension) → comprehension_heights (comprehensions (gs ++ (g ∷ []))) ≡ max
    (comprehension_heights (comprehensions gs)) (comprehension_heights (comprehensions (g ∷ [])))
higher [] g = omega arith
higher (x ∷ gs) g = omega (arith, higher gs g)

pub clause_pushed_height : (xs ys : List given.Comprehension) (g : given.Comprehension) (h k : ℕ) → ys ≡ xs ++ (g ∷ [])
    → h ≡ comprehension_heights (comprehensions (map comprehension_of xs))
    → k ≡ comprehension_heights (comprehensions (comprehension_of g ∷ []))
    → max h k ≡ comprehension_heights (comprehensions (map comprehension_of ys))
clause_pushed_height xs ys g h k q a b = omega (
  arith,
  a,
  b,
  ap (λ l. comprehension_heights (comprehensions l)) (clause_pushed xs ys g q),
  higher (map comprehension_of xs) (comprehension_of g),
)
