-- The shapes of targets.
use Rattle.std.specs.Prelude.{Bool, true, false}
use Rattle.pytree_node.specs.Trees as plain
use Rattle.pytree_node.specs.Trees.{Expr}

-- a `*` and another expression
abbrev pub is_starred : Expr → Bool
is_starred (plain.Starred e c) = true
is_starred _ = false
