use Rattle.pyparse_tokens.proofs.RisingLemmas.{Dropped}
use Rattle.pyparse_tokens.proofs.indents.drop_wider.Given as goal

abbrev pub invariant-loop-last : goal.invariant-loop-last
invariant-loop-last l = Dropped l.initial.standing.items l.standing.items l.widths

abbrev pub decreases-loop-last : goal.decreases-loop-last
decreases-loop-last l = goal.left-loop-last l
