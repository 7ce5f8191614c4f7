use Rattle.std.proofs.Common.{◌≤◌, ◌-◌, length}
use Rattle.pygrammar.specs.LineReader.{always, commas_of, read_name}
use Rattle.pyparse_nodes.specs.Views.{seen}
use Rattle.pyparse_statement.proofs.Commas.{Listed}
use Rattle.pyparse_statement.proofs.statements.names.read_names.Given as goal

abbrev pub invariant-more : goal.invariant-more
invariant-more l = record {
  ahead : l.at ≤ l.next;
  is : Listed l.tokens read_name always (commas_of read_name always (seen l.tokens l.at)) l.names.items l.next;
}

abbrev pub decreases-more : goal.decreases-more
decreases-more l = length l.tokens - l.next
