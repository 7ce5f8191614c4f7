-- What it means that an expression was read, or none.
use Rattle.std.specs.Prelude.{◌≤◌, List}
use Rattle.pytree_node.specs.Trees.{Expr}
use Rattle.pytoken.specs.Terminals.{Terminal}
use Rattle.pytree_height.specs.Heights.{height}
use Rattle.pygrammar.specs.declared.levels.Level.{Level}
use Rattle.pygrammar.specs.Grammar.{Derives}
use Rattle.pygrammar.specs.Meets.{Shapeless, High}
use Rattle.pyparse_nodes.specs.declared.stop.Stop.{Stop}
use Rattle.pyparse_nodes.specs.declared.stop.Stop.TheVariants as stop

-- the list is this expression, and its height is at most 500
pub record IsExpression (l : Level) (ts : List Terminal) (e : Expr) : Type 0 where
  pub derives : Derives l ts e
  pub low : height e ≤ 500

-- The list is no expression; or none of a height of at most 500; or there was no memory.
abbrev pub Refused : Stop → Level → List Terminal → Type 0
Refused stop.NoForm l ts = Shapeless l ts
Refused stop.TooDeep l ts = High 500 l ts
Refused stop.Memory l ts = Unit {0}
