use Rattle.std.proofs.Common.{◌≡◌, ◌<◌, false}
use Rattle.pyunparse_text.specs.Pieces.{piece}
use Rattle.pyunparse_text.specs.Statements.{point_signs, points}
use Rattle.pyunparse_text.specs.Folds.{puts}
use Rattle.pyunparse.proofs.imports.write_points.Given as goal

abbrev pub invariant-loop-left : goal.invariant-loop-left
invariant-loop-left g l = puts g.W.Writer.after l.out (point_signs piece l.close (points l.left)) ≡ puts g.W.Writer.after l.initial.out
    (point_signs piece false (points l.count))

abbrev pub invariant-loop-left-2 : goal.invariant-loop-left-2
invariant-loop-left-2 g l = (puts g.W.Writer.after l.out (point_signs piece l.close (points l.left)) ≡ puts g.W.Writer.after l.fn.out
    (point_signs piece false (points l.count))) × (l.left < 3)

abbrev pub decreases-loop-left : goal.decreases-loop-left
decreases-loop-left g l = l.left

abbrev pub decreases-loop-left-2 : goal.decreases-loop-left-2
decreases-loop-left-2 g l = l.left
