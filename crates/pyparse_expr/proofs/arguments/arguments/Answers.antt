use Rattle.pyplaces.proofs.Asides.{Apart, Still}
use Rattle.pyparse_expr.proofs.Recorders.Calls.{arguments_placed}
use Rattle.pyparse_expr.proofs.arguments.arguments.Goals as goal

pub returns-clause-placed : goal.returns-clause-placed
returns-clause-placed g c =
    let apart : Apart g.R.Recorder.after g.R.Recorder.beside = record { is = g.met.R.Recorder.apart } in
    let still : Still g.R.Recorder.after g.R.Recorder.aside_count = record { is = g.met.R.Recorder.aside_still } in
    arguments_placed c.args.tokens.now g.R.Recorder.aside_count c.args.at c.none_at.result c.in_ok-actual.actual apart still
    c.none_at.ensures.next c.none_at.ensures.state c.aside-aside.ensures c.in_ok-actual.ensures.placed
    (record { is = c.in_ok-take_back.ensures })
