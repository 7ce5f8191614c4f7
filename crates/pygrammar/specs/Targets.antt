-- The shapes of targets, and the contexts that they have there (language reference, 7.2 and 7.5).
use Rattle.std.specs.Prelude.{Option, Some, None, option_map}
use Rattle.pytree_node.specs.declared.operators.Context.TheVariants.{Store, Del}
use Rattle.pytree_node.specs.Trees
use Rattle.pytree_node.specs.Trees.{Expr, Exprs, no_exprs, an_expr}

-- a list of nodes, if each of them is there
abbrev pub both : Option Expr → Option Exprs → Option Exprs
both (Some e) (Some es) = Some (an_expr e es)
both _ _ = None

-- An expression of target shape with the context Store, in the members of a Tuple or List and in a Starred too: a Name, Attribute or
-- Subscript, a Tuple or List of such, a Starred of one that is no Starred.
abbrev mutual
  pub stored : Expr → Option Expr
  stored (Trees.Name x c) = Some (Trees.Name x Store)
  stored (Trees.Attribute e x c) = Some (Trees.Attribute e x Store)
  stored (Trees.Subscript e s c) = Some (Trees.Subscript e s Store)
  stored (Trees.Tuple es c) = option_map (λ fs. Trees.Tuple fs Store) (all_stored es)
  stored (Trees.ListOf es c) = option_map (λ fs. Trees.ListOf fs Store) (all_stored es)
  stored (Trees.Starred (Trees.Starred e d) c) = None
  stored (Trees.Starred e c) = option_map (λ f. Trees.Starred f Store) (stored e)
  stored _ = None

  pub all_stored : Exprs → Option Exprs
  all_stored no_exprs = Some no_exprs
  all_stored (an_expr e es) = both (stored e) (all_stored es)

-- what `del` takes, with the context Del: a Name, Attribute or Subscript, a Tuple or List of such
abbrev mutual
  pub deleted : Expr → Option Expr
  deleted (Trees.Name x c) = Some (Trees.Name x Del)
  deleted (Trees.Attribute e x c) = Some (Trees.Attribute e x Del)
  deleted (Trees.Subscript e s c) = Some (Trees.Subscript e s Del)
  deleted (Trees.Tuple es c) = option_map (λ fs. Trees.Tuple fs Del) (all_deleted es)
  deleted (Trees.ListOf es c) = option_map (λ fs. Trees.ListOf fs Del) (all_deleted es)
  deleted _ = None

  pub all_deleted : Exprs → Option Exprs
  all_deleted no_exprs = Some no_exprs
  all_deleted (an_expr e es) = both (deleted e) (all_deleted es)

-- a single target, with the context Store: a Name, Attribute or Subscript
abbrev pub single_stored : Expr → Option Expr
single_stored (Trees.Name x c) = Some (Trees.Name x Store)
single_stored (Trees.Attribute e x c) = Some (Trees.Attribute e x Store)
single_stored (Trees.Subscript e s c) = Some (Trees.Subscript e s Store)
single_stored _ = None
