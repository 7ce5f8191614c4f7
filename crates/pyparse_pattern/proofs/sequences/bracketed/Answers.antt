use Rattle.pyparse_pattern.proofs.Recorders.Sequences.{bracketed_placed}
use Rattle.pyparse_pattern.proofs.sequences.bracketed.Goals as goal

pub returns-clause-placed : goal.returns-clause-placed
returns-clause-placed g c =
    bracketed_placed g.R.Recorder.after _ _ c.args.tokens.now c.args.sign c.args.from c.args.room c.args.patterns c.make_sequence.result
    c.if-not-is_op.ensures c.in_ok-node.ensures c.make_sequence.ensures
