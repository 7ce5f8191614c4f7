-- Lists that grow by one.
--
-- Carries: put_plain, put_keyword, and what pyparse_expr cites. On: TreeOf, Heights.
use Rattle.std.proofs.Common.{◌≡◌, ap, ◌∙◌, arith, ℕ, max, List, [], ◌∷◌, ◌++◌, map}
use Rattle.std.proofs.lemmas.List.{map-append}
use Rattle.pytree_node.specs.declared.expressions.Expr as given
use Rattle.pytree_node.specs.declared.expressions.Keyword as given_keyword
use Rattle.pytree_node.specs.Trees.{Expr, Keyword}
use Rattle.pytree_node.specs.TreeOf.{keyword_of, tree_of}
use Rattle.pytree_height.specs.Heights.{height, list_height}

pub pushed : (xs ys : List given.Expr) (e : given.Expr) → ys ≡ xs ++ (e ∷ []) → map tree_of ys ≡ map tree_of xs ++ (tree_of e ∷ [])
pushed xs ys e h = ap (λ l. map tree_of l) h ∙ map-append tree_of xs (e ∷ [])

higher : (es : List Expr) (e : Expr) → list_height (es ++ (e ∷ [])) ≡ max (list_height es) (height e)
higher [] e = omega arith
higher (x ∷ es) e = omega (arith, higher es e)

pub pushed_height : (xs ys : List given.Expr) (e : given.Expr) (h k : ℕ) → ys ≡ xs ++ (e ∷ []) → h ≡ list_height (map tree_of xs)
    → k ≡ height (tree_of e) → max h k ≡ list_height (map tree_of ys)
pushed_height xs ys e h k q a b = omega (arith, a, b, ap list_height (pushed xs ys e q), higher (map tree_of xs) (tree_of e))

pub pushed_keyword : (ks ls : List given_keyword.Keyword) (k : given_keyword.Keyword) (t : Keyword) → ls ≡ ks ++ (k ∷ []) → keyword_of k ≡ t
    → map keyword_of ls ≡ map keyword_of ks ++ (t ∷ [])
pushed_keyword ks ls k t q e = ap (λ l. map keyword_of l) q ∙ map-append keyword_of ks (k ∷ []) ∙ ap (λ z. map keyword_of ks ++ (z ∷ [])) e
