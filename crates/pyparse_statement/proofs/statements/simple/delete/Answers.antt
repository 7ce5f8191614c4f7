use Rattle.std.proofs.Common.{refl}
use Rattle.pytree_node.proofs.Callers.StmtShapes.{delete_tree}
use Rattle.pyparse_statement.proofs.Recorders.Words.{delete_placed}
use Rattle.pyparse_statement.proofs.statements.simple.delete.Goals as goal

pub returns-clause-placed : goal.returns-clause-placed
returns-clause-placed g c = delete_placed c.in_ok-targets.ensures.placed (delete_tree _) refl
