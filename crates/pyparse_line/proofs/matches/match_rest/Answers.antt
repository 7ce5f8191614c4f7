use Rattle.std.proofs.Common.{refl}
use Rattle.pyparse_line.proofs.Recorders.Fronts.{match_placed}
use Rattle.pyparse_line.proofs.matches.match_rest.Goals as goal

pub returns-clause-placed : goal.returns-clause-placed
returns-clause-placed g c = λ prof. let h = c.in_ok-subject.ensures.placed in
    match_placed c.in_ok-subject.subject h.1 h.2 c.if-not-is_op.ensures refl refl c.recorded-recorded.ensures c.recorded-recorded.ensures
