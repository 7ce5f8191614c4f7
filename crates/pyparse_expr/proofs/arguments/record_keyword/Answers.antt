use Rattle.pyparse_expr.proofs.Recorders.Calls.{keyword_kept}
use Rattle.pyparse_expr.proofs.arguments.record_keyword.Goals as goal

pub returns : goal.returns
returns g c = λ w ps r e. keyword_kept _ g.R.Recorder.recorded_count r c.in_ok-node.ensures e
    (record { is = c.in_ok-set_aside.ensures })
