use Rattle.std.proofs.Common.{◌≡◌, ◌≤◌, ◌-◌, length, map, suc}
use Rattle.pytree_node.specs.TreeOf.{stmt_of}
use Rattle.pytree_node.specs.Trees.{stmts}
use Rattle.pytree_height.specs.Heights.{highest_in_all}
use Rattle.pygrammar.specs.LineReader.{statements}
use Rattle.pyparse_reads.specs.Readings.{reads}
use Rattle.pyparse_nodes.specs.Views.{seen}
use Rattle.pyparse_statement.proofs.statements.StatementSteps.{Runs}
use Rattle.pyparse_statement.proofs.Recorders.Values.{SimplesGrown}
use Rattle.pyparse_statement.proofs.statements.statements.read_statements.Given as goal

abbrev pub invariant-more : goal.invariant-more
invariant-more g l = record {
  ahead : l.at ≤ l.next;
  is : Runs l.tokens l.profile (reads l.depth) (statements l.profile (reads l.depth) (suc (length (seen l.tokens l.at)))
      (seen l.tokens l.at)) (map stmt_of l.statements.items) l.next;
  grown : SimplesGrown g.R.Recorder.after l.profile l.tokens l.at l.initial.recorder l.recorder (map stmt_of l.statements.items)
      l.next;
  high : l.height ≡ highest_in_all (stmts (map stmt_of l.statements.items));
}

abbrev pub decreases-more : goal.decreases-more
decreases-more g l = length l.tokens - l.next
