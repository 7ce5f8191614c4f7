-- The height of the highest expression in the statements after a colon, if there are any.
use Rattle.std.specs.Prelude.{ℕ, List, Option, Some, None}
use Rattle.pytree_node.specs.Trees.{Stmt, stmts}
use Rattle.pytree_height.specs.Heights.{highest_in_all}

abbrev pub suite_height : Option (List Stmt) → ℕ
suite_height None = 0
suite_height (Some ss) = highest_in_all (stmts ss)
