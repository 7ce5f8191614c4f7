use Rattle.pyparse_pattern.proofs.Recorders.Values.{sum_joined}
use Rattle.pyparse_pattern.proofs.numbers.sum_at.Goals as goal

pub returns-clause-placed : goal.returns-clause-placed
returns-clause-placed g c =
    sum_joined g.R.Recorder.after _ _ c.args.tokens.now c.args.at c.in_ok-number.number c.with_imaginary.result
    c.in_ok-number.ensures.placed c.with_imaginary.ensures.placed
