use Rattle.std.proofs.Common.{◌-◌}
use Rattle.pytoken.proofs.values.DigitLemmas.{Far}
use Rattle.pytoken.proofs.values.escapes.digits.Given as goal

abbrev pub invariant-loop-count : goal.invariant-loop-count
invariant-loop-count l = Far l.radix l.most l.count l.value l.text l.initial.text

abbrev pub decreases-loop-count : goal.decreases-loop-count
decreases-loop-count l = l.most - l.count
