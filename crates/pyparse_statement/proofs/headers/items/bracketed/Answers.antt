use Rattle.pyparse_statement.proofs.Recorders.Headers.{bracketed_placed}
use Rattle.pyparse_statement.proofs.headers.items.bracketed.Goals as goal

pub returns-clause-placed : goal.returns-clause-placed
returns-clause-placed g c = bracketed_placed c.in_ok-items.items c.if-not-is_op.ensures c.in_ok-items.ensures.placed
    c.if-not-is_op-2.ensures c.placed.ensures.items
    c.placed.ensures.next
