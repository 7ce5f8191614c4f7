use Rattle.std.proofs.Common.{refl}
use Rattle.pytree_node.proofs.Callers.StmtShapes.{import_tree}
use Rattle.pyparse_statement.proofs.Recorders.Imports.{import_placed}
use Rattle.pyparse_statement.proofs.statements.imports.import.Goals as goal

pub returns-clause-placed : goal.returns-clause-placed
returns-clause-placed g c = import_placed c.in_ok-names.ensures.placed (import_tree _) refl
