-- The value of a parameter.
--
-- Carries: make_arg. On: TreeOf.
use Rattle.std.proofs.Common.{◌≡◌, ap, ◌∙◌}
use Rattle.pytree_node.specs.declared.expressions.Arguments.{Arguments}
use Rattle.pytree_node.specs.declared.expressions.Expr.{Expr}
use Rattle.pytree_node.specs.declared.expressions.Expr.TheOpen as layer
use Rattle.pytree_node.specs.declared.expressions.Arg as given_arg
use Rattle.pytree_node.specs.declared.expressions.Arg.{Arg}
use Rattle.pytree_node.specs.declared.expressions.Comprehension.{Comprehension}
use Rattle.pytree_node.specs.declared.expressions.Keyword.{Keyword}
use Rattle.pytree_node.specs.declared.expressions.Call.{Call}
use Rattle.pytree_node.specs.declared.expressions.Compare.{Compare}
use Rattle.pytree_node.specs.declared.expressions.Dict.{Dict}
use Rattle.pytree_node.specs.declared.expressions.DictComp.{DictComp}
use Rattle.pytree_node.specs.declared.expressions.Slice.{Slice}
use Rattle.pytree_node.specs.Trees as plain
use Rattle.pytree_node.specs.Trees.{Identifier, optional}
use Rattle.pytree_node.specs.TreeOf.{arg_of, boxed_of}
use Rattle.pytree_node.proofs.Callers.ExprShapes.{arg_tree}

pub arg_is : (a : layer.Arg-F Expr Arg Arguments Call Compare Comprehension Dict DictComp Keyword Slice) (x : Identifier) → a.arg ≡ x
    → arg_of (given_arg.roll-Arg a) ≡ plain.arg x (optional (boxed_of a.annotation))
arg_is a x h = arg_tree (given_arg.roll-Arg a) ∙ ap valued (given_arg.out-roll-Arg a)
    ∙ ap (λ y. plain.arg y (optional (boxed_of a.annotation))) h
  where
    valued : layer.Arg-F Expr Arg Arguments Call Compare Comprehension Dict DictComp Keyword Slice → plain.Arg
    valued o = plain.arg o.arg (optional (boxed_of o.annotation))
