use Rattle.std.proofs.Common.{◌≤◌, ◌-◌, length, map}
use Rattle.pytree_node.specs.TreeOf.{tree_of}
use Rattle.pygrammar.specs.declared.levels.Level.TheVariants.{Expression}
use Rattle.pygrammar.specs.Entries.{Of}
use Rattle.pygrammar.specs.LineReader.{commas_of, deleted_one}
use Rattle.pygrammar.specs.Precedence.{starts}
use Rattle.pyparse_reads.specs.Readings.{reads}
use Rattle.pyparse_nodes.specs.Views.{seen}
use Rattle.pyparse_statement.proofs.Commas.{Listed}
use Rattle.pyparse_statement.proofs.Recorders.Parts.{DeletedGrown}
use Rattle.pyparse_statement.proofs.statements.simple.deleted_all.Given as goal

abbrev pub invariant-more : goal.invariant-more
invariant-more g l = record {
  ahead : l.at ≤ l.targets.next;
  is : Listed l.tokens (deleted_one (reads l.depth)) (starts (Of Expression))
      (commas_of (deleted_one (reads l.depth)) (starts (Of Expression)) (seen l.tokens l.at))
      (map tree_of l.targets.exprs.items) l.targets.next;
  grown : DeletedGrown g.R.Recorder.after l.tokens l.at l.initial.recorder l.recorder l.targets;
}

abbrev pub decreases-more : goal.decreases-more
decreases-more g l = length l.tokens - l.targets.next
