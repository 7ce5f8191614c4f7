use Rattle.std.proofs.Common.{◌≡◌, ◌++◌, drop}
use Rattle.pyplaces.specs.LineStarts.{line_starts, starts_after}
use Rattle.pyplaces.proofs.places.line_starts.Given as goal

abbrev pub invariant-loop-i : goal.invariant-loop-i
invariant-loop-i l = l.starts.items ++ starts_after l.i (drop l.i l.fn.text) ≡ line_starts l.fn.text
