use Rattle.std.proofs.Common.{sym}
use Rattle.pyplaces.proofs.Asides.{Apart, Still}
use Rattle.pyparse_pattern.proofs.Recorders.Levels.{mapping_placed}
use Rattle.pyparse_pattern.proofs.mappings.finish_mapping.Goals as goal

pub returns-clause-placed : goal.returns-clause-placed
returns-clause-placed g c =
    let apart : Apart g.R.Recorder.after g.R.Recorder.beside = record { is = g.met.R.Recorder.apart } in
    let still : Still g.R.Recorder.after g.R.Recorder.aside_count = record { is = g.met.R.Recorder.aside_still } in
    mapping_placed g.R.Recorder.after _ _ c.args.tokens.now g.R.Recorder.beside g.R.Recorder.aside_count apart still c.args.from
    c.args.room c.args.entries c.make_mapping.result c.if-not-is_op.ensures (rw c.deref.ensures.value at (sym c.if-not-is_mapping.ensures))
    (record { is = c.in_ok-take_back.ensures }) c.in_ok-node.ensures c.make_mapping.ensures
