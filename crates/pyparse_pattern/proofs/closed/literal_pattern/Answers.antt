use Rattle.pyparse_pattern.proofs.Recorders.Levels.{literal_placed}
use Rattle.pyparse_pattern.proofs.closed.literal_pattern.Goals as goal

pub returns-clause-placed : goal.returns-clause-placed
returns-clause-placed g c =
    literal_placed g.R.Recorder.after _ _ c.args.tokens.now c.args.at c.args.depth.room c.in_ok-e.e c.make_value.result
    c.in_ok-e.ensures.placed c.in_ok-node.ensures c.make_value.ensures
