use Rattle.std.proofs.Common.{◌-◌, length}
use Rattle.pyparse_tokens.specs.Inner.Indenting.{AreSpaces}
use Rattle.pyparse_tokens.proofs.indents.space_count.Given as goal

abbrev pub invariant-loop-count : goal.invariant-loop-count
invariant-loop-count l = AreSpaces l.bytes l.count

abbrev pub decreases-loop-count : goal.decreases-loop-count
decreases-loop-count l = length l.bytes - l.count
