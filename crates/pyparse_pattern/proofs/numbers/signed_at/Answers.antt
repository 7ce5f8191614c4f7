use Rattle.std.proofs.Common.{refl}
use Rattle.pyparse_pattern.proofs.Recorders.Values.{negative_placed, unsigned_placed}
use Rattle.pyparse_pattern.proofs.numbers.signed_at.Goals as goal

pub returns-then-not-is_op-clause-placed : goal.returns-then-not-is_op-clause-placed
returns-then-not-is_op-clause-placed g c =
    unsigned_placed g.R.Recorder.after _ _ c.args.tokens.now c.args.at c.number_at.result c.number_at.ensures.answered
    c.number_at.ensures.placed

pub returns-clause-placed : goal.returns-clause-placed
returns-clause-placed g c =
    negative_placed g.R.Recorder.after _ _ c.args.tokens.now c.args.at c.in_ok-number.number _ c.if-not-is_op.ensures
    c.in_ok-number.ensures.answered c.in_ok-number.ensures.placed c.in_ok-node.ensures c.in_ok-read.ensures refl
