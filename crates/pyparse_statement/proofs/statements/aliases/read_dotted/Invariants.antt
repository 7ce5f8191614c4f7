use Rattle.std.proofs.Common.{◌≤◌, ◌-◌, length}
use Rattle.std.specs.Prelude.{string_bytes}
use Rattle.pygrammar.specs.LineReader.{read_dotted}
use Rattle.pyparse_nodes.specs.Views.{seen}
use Rattle.pyparse_statement.proofs.statements.ImportSteps.{Dotted}
use Rattle.pyparse_statement.proofs.statements.aliases.read_dotted.Given as goal

abbrev pub invariant-more : goal.invariant-more
invariant-more l = record {
  ahead : l.at ≤ l.next;
  is : Dotted l.tokens (read_dotted (seen l.tokens l.at)) (string_bytes l.text) l.next;
}

abbrev pub decreases-more : goal.decreases-more
decreases-more l = length l.tokens - l.next
