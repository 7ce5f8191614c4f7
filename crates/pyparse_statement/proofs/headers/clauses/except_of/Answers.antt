use Rattle.std.proofs.Common.{refl}
use Rattle.pyparse_statement.proofs.Recorders.Headers.{except_of_placed}
use Rattle.pyparse_statement.proofs.headers.clauses.except_of.Goals as goal

pub returns-clause-placed : goal.returns-clause-placed
returns-clause-placed g c = let h = c.in_ok-class.ensures.placed in
    except_of_placed c.in_ok-class.class h.1 h.2 c.in_ok-name.ensures refl c.recorded.ensures
