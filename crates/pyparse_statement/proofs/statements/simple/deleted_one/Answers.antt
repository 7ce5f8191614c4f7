use Rattle.pyparse_statement.proofs.Recorders.Parts.{deleted_placed}
use Rattle.pyparse_statement.proofs.statements.simple.deleted_one.Goals as goal

pub returns-clause-placed : goal.returns-clause-placed
returns-clause-placed g c = let h = c.in_ok-e.ensures.placed in deleted_placed c.args.tokens.now c.in_ok-e.e c.deleted.result
    h.1 h.2 c.deleted.ensures
