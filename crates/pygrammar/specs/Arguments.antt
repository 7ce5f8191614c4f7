-- The order of the arguments of a call (language reference, 6.3.4).
use Rattle.std.specs.Prelude.{List, [], ◌∷◌, Option, Some, None, Bool, true, false, cond}
use Rattle.pytree_node.specs.declared.operators.Context.TheVariants.{Load}
use Rattle.pytree_node.specs.Trees
use Rattle.pytree_node.specs.Trees.{Expr, Exprs, no_exprs, an_expr, Keywords, no_keyword, a_keyword}
use Rattle.pygrammar.specs.Entries.{Entry, Single, Spread, Doubled, Keyed}

-- No plain one follows a `NAME =` or a `**`, and no `*` follows a `**`. The two flags: a `NAME =` or `**`, a `**` stood before.
abbrev pub in_order : (keyword double : Bool) → List Entry → Bool
in_order k d [] = true
in_order false d (Single e ∷ es) = in_order false d es
in_order k false (Spread e ∷ es) = in_order k false es
in_order k d (Keyed x e ∷ es) = in_order true d es
in_order k d (Doubled e ∷ es) = in_order true true es
in_order _ _ _ = false

-- the field `args`: plain and starred ones, in their order
abbrev pub positional : List Entry → Exprs
positional [] = no_exprs
positional (Single e ∷ es) = an_expr e (positional es)
positional (Spread e ∷ es) = an_expr (Trees.Starred e Load) (positional es)
positional (_ ∷ es) = positional es

-- the field `keywords`: the others, in their order
abbrev pub keywords : List Entry → Keywords
keywords [] = no_keyword
keywords (Keyed x e ∷ es) = a_keyword (Some x) e (keywords es)
keywords (Doubled e ∷ es) = a_keyword None e (keywords es)
keywords (_ ∷ es) = keywords es

-- the Call of f, if the order is right
abbrev pub called : Expr → List Entry → Option Expr
called f es = cond (in_order false false es) (Some (Trees.Call f (positional es) (keywords es))) None
