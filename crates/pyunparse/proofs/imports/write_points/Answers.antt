use Rattle.std.proofs.Common.{arith}
use Rattle.pyunparse.proofs.StatementParts.ImportLemmas.{one_on, points_done, three_on}
use Rattle.pyunparse.proofs.imports.write_points.Goals as goal

pub loop-left-preserved : goal.loop-left-preserved
loop-left-preserved g c = three_on g.W.Writer.after _ c.loop-left.out _ c.loop-left.close c.loop-left.left (omega arith)
    c.loop-left.invariant c.in_ok-put_operator.ensures

pub loop-left-2-init : goal.loop-left-2-init
loop-left-2-init g c = (c.loop-left.invariant, omega arith)

pub loop-left-2-preserved : goal.loop-left-2-preserved
loop-left-2-preserved g c = (
  one_on g.W.Writer.after _ c.loop-left-2.out _ c.loop-left-2.close c.loop-left-2.left (omega arith)
      c.loop-left-2.invariant.1 c.loop-left-2.invariant.0 c.in_ok-put_operator-2.ensures,
  omega arith,
)

pub returns : goal.returns
returns g c = points_done g.W.Writer.after _ c.loop-left-2.out c.loop-left-2.close c.loop-left-2.left (omega arith)
    c.loop-left-2.invariant.0
