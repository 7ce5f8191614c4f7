use Rattle.std.proofs.Common.{◌∙◌, ap, refl}
use Rattle.pytree_node.proofs.Callers.StmtShapes.{return_tree}
use Rattle.pytree_node.specs.Trees.{Return}
use Rattle.pyparse_statement.proofs.Recorders.Words.{return_placed}
use Rattle.pyparse_statement.proofs.statements.simple.return_value.Goals as goal

pub returns-clause-placed : goal.returns-clause-placed
returns-clause-placed g c = return_placed c.in_ok-value.ensures.placed (return_tree _ ∙ ap Return c.unboxed.ensures) refl
