use Rattle.pyplaces.proofs.Asides.{Apart, Still}
use Rattle.pyparse_statement.proofs.Recorders.Definitions.{function_placed}
use Rattle.pyparse_statement.proofs.headers.definitions.function_at.Goals as goal

pub returns-clause-placed : goal.returns-clause-placed
returns-clause-placed g c = λ e s.
    let apart : Apart g.R.Recorder.after g.R.Recorder.beside = record { is = g.met.R.Recorder.apart } in
    let still : Still g.R.Recorder.after g.R.Recorder.aside_count = record { is = g.met.R.Recorder.aside_still } in
    let kept : Still g.R.Recorder.beside g.R.Recorder.recorded_count = record { is = g.met.R.Recorder.recorded_still } in
    function_placed g.R.Recorder.recorded_count g.R.Recorder.aside_count c.args.tokens.now apart still kept c.args.types c.args.aside
    c.in_ok-parameters.parameters c.in_ok-returns.returns c.recorded-before.result c.function_header.result e
    c.in_ok-parameters.ensures.placed c.if-not-is_op.ensures c.recorded-before.ensures c.in_ok-returns.ensures.placed
    (record { is = c.in_ok-take_back.ensures }) c.function_header.ensures.header c.function_header.ensures.next
    c.function_header.ensures.before s
