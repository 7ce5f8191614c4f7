use Rattle.std.proofs.Common.{◌-◌, ◌≤◌, length}
use Rattle.pytoken.specs.Inner.Readings.{IsClearBetween}
use Rattle.pytoken.proofs.values.clear_bytes.blocks_are_clear.Given as goal

abbrev pub invariant-loop-at : goal.invariant-loop-at
invariant-loop-at l = (l.at ≤ length l.bytes) × IsClearBetween l.one l.other l.bytes 0 l.at

abbrev pub decreases-loop-at : goal.decreases-loop-at
decreases-loop-at l = length l.bytes - l.at
