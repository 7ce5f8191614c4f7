use Rattle.std.proofs.Common.{◌≡◌, map, drop}
use Rattle.pytree_node.specs.Trees.{exprs}
use Rattle.pytree_node.specs.TreeOf.{tree_of}
use Rattle.pyunparse_text.specs.Statements.{are_plain}
use Rattle.pyunparse_text.proofs.line_brackets.are_plain.Given as goal

abbrev pub invariant-loop-e : goal.invariant-loop-e
invariant-loop-e l = are_plain (exprs (map tree_of (drop l.e-index l.es))) ≡ are_plain (exprs (map tree_of l.es))
