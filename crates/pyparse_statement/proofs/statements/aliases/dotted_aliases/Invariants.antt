use Rattle.std.proofs.Common.{◌≤◌, ◌-◌, length, map}
use Rattle.pytree_node.specs.TreeOf.{alias_of}
use Rattle.pygrammar.specs.LineReader.{always, commas_of, dotted_alias}
use Rattle.pyparse_nodes.specs.Views.{seen}
use Rattle.pyparse_statement.proofs.Commas.{Listed}
use Rattle.pyparse_statement.proofs.Recorders.Imports.{DottedGrown}
use Rattle.pyparse_statement.proofs.statements.aliases.dotted_aliases.Given as goal

abbrev pub invariant-more : goal.invariant-more
invariant-more g l = record {
  ahead : l.at ≤ l.next;
  is : Listed l.tokens dotted_alias always (commas_of dotted_alias always (seen l.tokens l.at)) (map alias_of l.aliases.items) l.next;
  grown : DottedGrown g.R.Recorder.after l.tokens l.at l.initial.recorder l.recorder (map alias_of l.aliases.items) l.next;
}

abbrev pub decreases-more : goal.decreases-more
decreases-more g l = length l.tokens - l.next
