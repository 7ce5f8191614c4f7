-- What stands between the commas of a list in the grammar, and the parts of a node that a list gives.
use Rattle.std.specs.Prelude.{List, [], ◌∷◌, Bool}
use Rattle.pygrammar.specs.declared.levels.Level.{Level}
use Rattle.pytree_node.specs.Trees.{Expr, Exprs, no_exprs, an_expr, OptionalExpr, absent, present, OptionalExprs, no_optional, an_optional}
use Rattle.pytree_node.specs.Trees.{Arg, Identifier}

-- what stands between the commas of a list
pub data Item : Type 0 where
  Of : Level → Item  -- an expression of this level
  Pair : Item  -- of a Dict
  Argument : Item  -- of a call
  Parameter : Bool → Item  -- whether there may be annotations

-- what is read of one
pub data Entry : Type 0 where
  Single : Expr → Entry
  Paired : Expr → Expr → Entry
  Spread : Expr → Entry  -- `*` of an argument
  Doubled : Expr → Entry  -- `**` of a pair or an argument
  Keyed : Identifier → Expr → Entry
  Plain : Arg → OptionalExpr → Entry  -- a parameter with its default
  Slashed : Entry  -- `/`
  Bare : Entry  -- `*`
  Gathered : Arg → Entry  -- `*` NAME
  Collected : Arg → Entry  -- `**` NAME

-- the nodes of a list of expressions
abbrev pub singles : List Entry → Exprs
singles [] = no_exprs
singles (Single e ∷ es) = an_expr e (singles es)
singles (_ ∷ es) = singles es

-- the keys of a Dict, none for `**`
abbrev pub keys : List Entry → OptionalExprs
keys [] = no_optional
keys (Paired k v ∷ es) = an_optional (present k) (keys es)
keys (_ ∷ es) = an_optional absent (keys es)

-- the values of a Dict
abbrev pub values : List Entry → Exprs
values [] = no_exprs
values (Paired k v ∷ es) = an_expr v (values es)
values (Doubled v ∷ es) = an_expr v (values es)
values (_ ∷ es) = values es
