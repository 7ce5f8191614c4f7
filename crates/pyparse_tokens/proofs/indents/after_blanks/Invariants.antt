use Rattle.std.proofs.Common.{length}
use Rattle.pyparse_tokens.proofs.IndentLemmas.{Passed}
use Rattle.pyparse_tokens.proofs.indents.after_blanks.Given as goal

abbrev pub invariant-loop-first : goal.invariant-loop-first
invariant-loop-first l = Passed l.initial.text l.text

abbrev pub decreases-loop-first : goal.decreases-loop-first
decreases-loop-first l = length l.text
