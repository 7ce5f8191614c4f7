use Rattle.std.proofs.Common.{◌≡◌, map, drop}
use Rattle.pytree_node.specs.Trees.{exprs}
use Rattle.pytree_node.specs.TreeOf.{tree_of}
use Rattle.pyunparse_text.specs.Written.{some_named}
use Rattle.pyunparse.proofs.tuples.some_named.Given as goal

abbrev pub invariant-loop-e : goal.invariant-loop-e
invariant-loop-e l = some_named (exprs (map tree_of (drop l.e-index l.es))) ≡ some_named (exprs (map tree_of l.es))
