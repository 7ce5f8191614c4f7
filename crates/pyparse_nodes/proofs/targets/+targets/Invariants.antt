use Rattle.std.proofs.Common.{◌≡◌, ◌<◌, ℕ, get_or, Some}
use Rattle.pytree_node.specs.declared.expressions.Expr.{Expr}
use Rattle.pytree_node.specs.TreeOf.{tree_of}
use Rattle.pygrammar.specs.Targets.{stored}
use Rattle.pyparse_nodes.proofs.targets.+targets.Given as goal

abbrev pub invariant-store_all-loop-e : goal.invariant-store_all-loop-e
invariant-store_all-loop-e l = record {
  rest : goal.unvisited-store_all-loop-e l;
  done : (k : ℕ) (d : Expr) → k < l.e-index → stored (tree_of (get_or l.initial.e-items k d)) ≡ Some (tree_of (get_or l.e-items k d));
}
