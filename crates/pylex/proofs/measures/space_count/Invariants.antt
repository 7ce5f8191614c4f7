use Rattle.std.proofs.Common.{◌-◌, length}
use Rattle.pylex.specs.Inner.Plain.{SpacesAhead}
use Rattle.pylex.proofs.measures.space_count.Given as goal

abbrev pub invariant-loop-count : goal.invariant-loop-count
invariant-loop-count l = SpacesAhead l.bytes l.count

abbrev pub decreases-loop-count : goal.decreases-loop-count
decreases-loop-count l = length l.bytes - l.count
