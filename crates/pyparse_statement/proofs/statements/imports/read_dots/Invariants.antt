use Rattle.std.proofs.Common.{◌≤◌, ◌-◌, length}
use Rattle.pygrammar.specs.LineReader.{read_dots}
use Rattle.pyparse_nodes.specs.Views.{seen}
use Rattle.pyparse_statement.proofs.statements.ImportSteps.{Dots}
use Rattle.pyparse_statement.proofs.statements.imports.read_dots.Given as goal

abbrev pub invariant-more : goal.invariant-more
invariant-more l = record {
  ahead : l.at ≤ l.next;
  is : Dots l.tokens (read_dots (seen l.tokens l.at)) l.count l.next;
}

abbrev pub decreases-more : goal.decreases-more
decreases-more l = length l.tokens - l.next
