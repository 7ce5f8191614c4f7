use Rattle.std.proofs.Common.{◌≤◌, ◌-◌, length, map, suc, []}
use Rattle.pytree_node.specs.TreeOf.{tree_of}
use Rattle.pygrammar.specs.LineReader.{value_loop}
use Rattle.pyparse_reads.specs.Readings.{reads}
use Rattle.pyparse_nodes.specs.Views.{seen}
use Rattle.pyparse_statement.proofs.statements.ValueSteps.{Assigns}
use Rattle.pyparse_statement.proofs.Recorders.Values.{TargetsGrown}
use Rattle.pyparse_statement.proofs.statements.values.assignment.Given as goal

abbrev pub invariant-more : goal.invariant-more
invariant-more g l = record {
  ahead : l.at ≤ l.targets.next;
  is : Assigns l.tokens (reads l.depth) (value_loop (reads l.depth) (suc (length (seen l.tokens l.at))) [] (seen l.tokens l.at))
      (map tree_of l.targets.exprs.items) l.targets.next;
  grown : TargetsGrown g.R.Recorder.after l.tokens l.at l.initial.recorder l.recorder l.targets;
}

abbrev pub decreases-more : goal.decreases-more
decreases-more g l = length l.tokens - l.targets.next
