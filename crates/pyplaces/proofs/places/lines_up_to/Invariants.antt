use Rattle.std.proofs.Common.{ℕ, ◌<◌, ◌≤◌, ◌-◌, length}
use Rattle.std.specs.Prelude.{slice_index}
use Rattle.pyplaces.proofs.places.lines_up_to.Given as goal

abbrev pub invariant-loop-low : goal.invariant-loop-low
invariant-loop-low l =
    (l.low ≤ l.high) × (l.high ≤ length l.fn.starts)
    × ((k : ℕ) → k < l.low → slice_index l.fn.starts k ≤ l.offset)
    × ((k : ℕ) → l.high ≤ k → k < length l.fn.starts → l.offset < slice_index l.fn.starts k)

abbrev pub decreases-loop-low : goal.decreases-loop-low
decreases-loop-low l = l.high - l.low
