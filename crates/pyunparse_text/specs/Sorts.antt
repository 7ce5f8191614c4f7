-- The expressions that a list is looked through for.
use Rattle.std.specs.Prelude.{Bool, true, false}
use Rattle.pytree_node.specs.Trees
use Rattle.pytree_node.specs.Trees.{Expr}
use Rattle.pyunparse_text.specs.declared.sorts.Sort.{Sort}
use Rattle.pyunparse_text.specs.declared.sorts.Sort.TheVariants as sorts

abbrev pub sort : Expr → Sort
sort (Trees.Starred e c) = sorts.Starred
sort (Trees.NamedExpr t e) = sorts.Named
sort _ = sorts.Other

-- a generator
abbrev pub is_generator : Expr → Bool
is_generator (Trees.GeneratorExp e gs) = true
is_generator _ = false
