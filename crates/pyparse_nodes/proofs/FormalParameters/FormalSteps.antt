-- Lists of parameters that grow by one.
--
-- Carries: put_arg, put_keyword_only. On: TreeOf.
use Rattle.std.proofs.Common.{◌≡◌, ap, ◌∙◌, List, [], ◌∷◌, ◌++◌, map, Option}
use Rattle.std.proofs.lemmas.List.{map-append}
use Rattle.pytree_node.specs.declared.expressions.Arg as given
use Rattle.pytree_node.specs.Trees.{Expr, optional}
use Rattle.pytree_node.specs.TreeOf.{arg_of}

pub pushed_arg : (xs ys : List given.Arg) (a : given.Arg) → ys ≡ xs ++ (a ∷ []) → map arg_of ys ≡ map arg_of xs ++ (arg_of a ∷ [])
pushed_arg xs ys a h = ap (λ l. map arg_of l) h ∙ map-append arg_of xs (a ∷ [])

pub pushed_optional : (xs ys : List (Option Expr)) (d : Option Expr) → ys ≡ xs ++ (d ∷ [])
    → map optional ys ≡ map optional xs ++ (optional d ∷ [])
pushed_optional xs ys d h = ap (λ l. map optional l) h ∙ map-append optional xs (d ∷ [])
