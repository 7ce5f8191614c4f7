use Rattle.pyparse_line.proofs.Recorders.Fronts.{colon_placed}
use Rattle.pyparse_line.proofs.fronts.read_colon.Goals as goal

pub returns-clause-placed : goal.returns-clause-placed
returns-clause-placed g c = colon_placed g.R.Recorder.after c.args.profile _ _ c.read_suite.result c.if-not-is_op.ensures
    c.read_suite.ensures.placed
