use Rattle.std.proofs.Common.{refl}
use Rattle.pytree_node.proofs.Callers.StmtShapes.{import_from_tree}
use Rattle.pyparse_statement.proofs.Recorders.Imports.{import_of_placed}
use Rattle.pyparse_statement.proofs.statements.imports.import_of.Goals as goal

pub returns-clause-placed : goal.returns-clause-placed
returns-clause-placed g c = import_of_placed c.in_ok-names.ensures.placed (import_from_tree _ _ _) refl
