use Rattle.std.proofs.Common.{refl}
use Rattle.pyparse_statement.proofs.Recorders.Headers.{while_placed}
use Rattle.pyparse_statement.proofs.headers.conditions.while_rest.Goals as goal

pub returns-clause-placed : goal.returns-clause-placed
returns-clause-placed g c = let h = c.in_ok-test.ensures.placed in while_placed c.in_ok-test.test h.1 h.2 refl c.recorded.ensures refl
