use Rattle.std.proofs.Common.{refl}
use Rattle.pyparse_statement.proofs.Recorders.Headers.{with_placed}
use Rattle.pyparse_statement.proofs.headers.loops.with_rest.Goals as goal

pub returns-clause-placed : goal.returns-clause-placed
returns-clause-placed g c = with_placed c.in_ok-items.ensures.placed refl refl c.recorded.ensures
