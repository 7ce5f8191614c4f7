use Rattle.std.proofs.lemmas.Result.{MatchResult-weaker}
use Rattle.pyplaces.proofs.Asides.{Apart, Still}
use Rattle.pyparse_expr.proofs.Recorders.Calls.{call_placed}
use Rattle.pyparse_expr.proofs.arguments.finish.Goals as goal

pub returns-clause-placed : goal.returns-clause-placed
returns-clause-placed g c = λ l ps p w e k.
    let apart : Apart g.R.Recorder.after g.R.Recorder.beside = record { is = g.met.R.Recorder.apart } in
    let still : Still g.R.Recorder.after g.R.Recorder.aside_count = record { is = g.met.R.Recorder.aside_still } in
    MatchResult-weaker c.make_call.result c.make_call.ensures
    (λ r m. call_placed c.args.tokens.now g.R.Recorder.aside_count c.args.at c.args.room
    c.args.func c.args.actual r apart still c.if-not-is_op.ensures c.if-actual.false e (record { is = c.in_ok-take_back.ensures })
    c.in_ok-node.ensures m l p k) (λ y _. tt)
