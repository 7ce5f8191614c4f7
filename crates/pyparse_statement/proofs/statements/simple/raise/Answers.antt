use Rattle.std.proofs.Common.{refl, Some}
use Rattle.pytree_node.proofs.Callers.StmtShapes.{raise_tree}
use Rattle.pyparse_statement.proofs.Recorders.Words.{raise_alone_placed, raise_placed}
use Rattle.pyparse_statement.proofs.statements.simple.raise.Goals as goal

pub returns-then-not-starts_expression-clause-placed : goal.returns-then-not-starts_expression-clause-placed
returns-then-not-starts_expression-clause-placed g c = raise_alone_placed c.raise_at.ensures.statement c.raise_at.ensures.next

pub returns-clause-placed : goal.returns-clause-placed
returns-clause-placed g c = let h = c.in_ok-exc.ensures.placed in
    raise_placed c.in_ok-exc.exc h.1 h.2 c.in_ok-cause.ensures.placed (raise_tree (Some c.in_ok-exc.exc.expr) c.in_ok-cause.cause.expr) refl
