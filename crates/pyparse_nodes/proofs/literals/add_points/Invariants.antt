use Rattle.std.proofs.Common.{◌≡◌, ◌++◌, take}
use Rattle.pyparse_nodes.proofs.literals.add_points.Given as goal

abbrev pub invariant-loop-point : goal.invariant-loop-point
invariant-loop-point l = l.to ≡ l.initial.to ++ take l.point-index l.point-items
