use Rattle.std.proofs.Common.{refl}
use Rattle.pyparse_line.proofs.Recorders.Cases.{case_placed}
use Rattle.pyparse_line.proofs.cases.case_rest.Goals as goal

pub returns-clause-placed : goal.returns-clause-placed
returns-clause-placed g c = let h = c.in_ok-pattern.ensures.placed in
    case_placed c.in_ok-pattern.pattern h.1 h.2 c.in_ok-guard.ensures.placed refl refl c.recorded.ensures
