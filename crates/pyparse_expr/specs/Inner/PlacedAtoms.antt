-- What was read, with the sign that closes it.
use Rattle.std.specs.Prelude.{◌≡◌, ◌+◌, List}
use Rattle.pylex_lexeme.specs.declared.kinds.Exact.{Exact}
use Rattle.pytree_node.specs.TreeOf.{tree_of}
use Rattle.pytoken.specs.Terminals.{Op}
use Rattle.pytoken.specs.declared.values.terminals.Terminal.{Terminal}
use Rattle.pyparse_nodes.specs.declared.found.Read.{Read}
use Rattle.pyparse_nodes.specs.Views.{Stands}

pub record ClosedBy (sign : Exact) (ts : List Terminal) (e r : Read) : Type 0 where
  pub stands : Stands (Op sign) ts e.next
  pub same : tree_of r.expr.value ≡ tree_of e.expr.value
  pub next_is : r.next ≡ e.next + 1
