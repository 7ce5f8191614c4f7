use Rattle.std.proofs.Common.{refl}
use Rattle.pyparse_pattern.proofs.sequences.grouped.Goals as goal

pub returns-clause-placed : goal.returns-clause-placed
returns-clause-placed c = record { stands = c.if-not-is_op.ensures; same = refl; next_is = refl }
