use Rattle.std.proofs.Common.{◌≡◌, map, drop}
use Rattle.pytree_node.specs.TreeOf.{tree_of}
use Rattle.pyunparse_text.specs.Pieces.{piece}
use Rattle.pyunparse_text.specs.Statements.{targets}
use Rattle.pyunparse_text.specs.Folds.{puts}
use Rattle.pyunparse.proofs.statements.write_targets.Given as goal

abbrev pub invariant-loop-target : goal.invariant-loop-target
invariant-loop-target g l =
    puts g.W.Writer.after l.out (targets piece (map tree_of (drop l.target-index l.targets))) ≡ puts g.W.Writer.after l.initial.out
    (targets piece (map tree_of l.targets))
