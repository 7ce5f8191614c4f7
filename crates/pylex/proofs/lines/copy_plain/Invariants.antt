use Rattle.std.proofs.Common.{◌≡◌, ◌≤◌, ◌-◌, true, length, take}
use Rattle.std.specs.List.{list_all}
use Rattle.pysource.specs.Reprs.{is_plain}
use Rattle.pylex.proofs.lines.copy_plain.Given as goal

abbrev pub invariant-loop-count : goal.invariant-loop-count
invariant-loop-count l = (l.count ≤ length l.bytes) × (length l.into ≡ length l.bytes) × (take l.count l.into ≡ take l.count l.bytes) ×
    (list_all is_plain (take l.count l.bytes) ≡ true)

abbrev pub decreases-loop-count : goal.decreases-loop-count
decreases-loop-count l = length l.bytes - l.count
