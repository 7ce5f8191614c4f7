use Rattle.std.proofs.Common.{ℕ, ◌<◌, slice_index_or}
use Rattle.pytree_node.specs.Points.{IsPoint}
use Rattle.pytree_node.proofs.points.Points.from_vec.Given as goal

abbrev pub invariant-loop-point : goal.invariant-loop-point
invariant-loop-point l = (k : ℕ) → (d : ℕ) → k < l.point-index → IsPoint (slice_index_or l.fn.points.items k d)
