-- Items of a `with`, with one more.
--
-- Carries: push. On: TreeOf, Heights.
use Rattle.std.proofs.Common.{◌≡◌, ap, ◌∙◌, arith, ℕ, max, List, [], ◌∷◌, ◌++◌, map}
use Rattle.std.proofs.lemmas.List.{map-append}
use Rattle.pytree_node.specs.declared.statements.Item as given
use Rattle.pytree_node.specs.Trees.{Item}
use Rattle.pytree_node.specs.TreeOf.{item_of}
use Rattle.pytree_height.specs.Heights.{item_heights}

pub item_pushed : (xs ys : List given.Item) (i : given.Item) → ys ≡ xs ++ (i ∷ []) → map item_of ys ≡ map item_of xs ++ (item_of i ∷ [])
item_pushed xs ys i h = ap (λ l. map item_of l) h ∙ map-append item_of xs (i ∷ [])

higher : (is : List Item) (i : Item) → item_heights (is ++ (i ∷ [])) ≡ max (item_heights is) (item_heights (i ∷ []))
higher [] i = omega arith
higher (x ∷ is) i = omega (arith, higher is i)

pub item_pushed_height : (xs ys : List given.Item) (i : given.Item) (h k : ℕ) → ys ≡ xs ++ (i ∷ []) → h ≡ item_heights (map item_of xs)
    → k ≡ item_heights (item_of i ∷ []) → max h k ≡ item_heights (map item_of ys)
item_pushed_height xs ys i h k q a b = omega (arith, a, b, ap item_heights (item_pushed xs ys i q), higher (map item_of xs) (item_of i))
