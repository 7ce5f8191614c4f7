use Rattle.pyparse_pattern.proofs.Recorders.Values.{string_placed}
use Rattle.pyparse_pattern.proofs.literals.read_literal.Goals as goal

pub returns-then-starts_string-clause-placed : goal.returns-then-starts_string-clause-placed
returns-then-starts_string-clause-placed g c =
    string_placed g.R.Recorder.after _ _ c.args.tokens.now c.args.at c.read_at.result c.if-starts_string.ensures.is c.read_at.ensures.placed

pub returns-else-starts_string-clause-placed : goal.returns-else-starts_string-clause-placed
returns-else-starts_string-clause-placed g c = c.read_number.ensures.placed
