-- An expression of a class that is no target has no form as one.
--
-- Carries: is_starred, store, store_single, delete. On: TreeOf.
use Rattle.std.proofs.Common.{◌≡◌, Global, refl, None, false}
use Rattle.std.specs.declared.vec.Vec.{Vec}
use Rattle.std.specs.declared.boxed.Box.{Box}
use Rattle.pytree_node.specs.declared.operators.Context.{Context}
use Rattle.pytree_node.specs.declared.expressions.Expr.{Expr}
use Rattle.pytree_node.specs.declared.expressions.Expr.TheVariants as variant
use Rattle.pytree_node.specs.Trees as plain
use Rattle.pytree_node.specs.Trees.{Identifier}
use Rattle.pytree_node.specs.TreeOf.{tree_of}
use Rattle.pytree_node.proofs.Callers.ExprClasses.{HasClass, has_class}
use Rattle.pygrammar.specs.Targets.{deleted, single_stored, stored}
use Rattle.pyparse_nodes.specs.Inner.Targets.{is_starred}

-- an expression of no such shape
module _ (e : Expr) where
  no_star : (t : plain.Expr) → HasClass t e → ((value : Box Expr Global) (ctx : Context) → e ≡ variant.Starred value ctx
      → ⊥) → is_starred t ≡ false
  no_star (plain.Starred _ _) h s = absurd (s h.0 h.1 h.2)
  no_star _ h s = refl

  pub not_starred : ((value : Box Expr Global) (ctx : Context) → e ≡ variant.Starred value ctx → ⊥) → is_starred (tree_of e) ≡ false
  not_starred s = no_star (tree_of e) (has_class e) s

  module _
      (no_attribute : (value : Box Expr Global) (attr : Identifier) (ctx : Context) → e ≡ variant.Attribute value attr ctx → ⊥)
      (no_subscript : (value : Box Expr Global) (slice : Box Expr Global) (ctx : Context) → e ≡ variant.Subscript value slice ctx → ⊥)
      (no_starred : (value : Box Expr Global) (ctx : Context) → e ≡ variant.Starred value ctx → ⊥)
      (no_name : (id : Identifier) (ctx : Context) → e ≡ variant.Name id ctx → ⊥)
      (no_list : (elts : Vec Expr Global) (ctx : Context) → e ≡ variant.List elts ctx → ⊥)
      (no_tuple : (elts : Vec Expr Global) (ctx : Context) → e ≡ variant.Tuple elts ctx → ⊥) where
    none_stored : (t : plain.Expr) → HasClass t e → stored t ≡ None
    none_stored (plain.Attribute _ _ _) h = absurd (no_attribute h.0 h.1 h.2 h.3)
    none_stored (plain.Subscript _ _ _) h = absurd (no_subscript h.0 h.1 h.2 h.3)
    none_stored (plain.Starred _ _) h = absurd (no_starred h.0 h.1 h.2)
    none_stored (plain.Name _ _) h = absurd (no_name h.0 h.1 h.2)
    none_stored (plain.ListOf _ _) h = absurd (no_list h.0 h.1 h.2)
    none_stored (plain.Tuple _ _) h = absurd (no_tuple h.0 h.1 h.2)
    none_stored _ h = refl

    pub not_stored : stored (tree_of e) ≡ None
    not_stored = none_stored (tree_of e) (has_class e)

  module _
      (no_attribute : (value : Box Expr Global) (attr : Identifier) (ctx : Context) → e ≡ variant.Attribute value attr ctx → ⊥)
      (no_subscript : (value : Box Expr Global) (slice : Box Expr Global) (ctx : Context) → e ≡ variant.Subscript value slice ctx → ⊥)
      (no_name : (id : Identifier) (ctx : Context) → e ≡ variant.Name id ctx → ⊥) where
    none_single : (t : plain.Expr) → HasClass t e → single_stored t ≡ None
    none_single (plain.Attribute _ _ _) h = absurd (no_attribute h.0 h.1 h.2 h.3)
    none_single (plain.Subscript _ _ _) h = absurd (no_subscript h.0 h.1 h.2 h.3)
    none_single (plain.Name _ _) h = absurd (no_name h.0 h.1 h.2)
    none_single _ h = refl

    pub not_single : single_stored (tree_of e) ≡ None
    not_single = none_single (tree_of e) (has_class e)

    module _
        (no_list : (elts : Vec Expr Global) (ctx : Context) → e ≡ variant.List elts ctx → ⊥)
        (no_tuple : (elts : Vec Expr Global) (ctx : Context) → e ≡ variant.Tuple elts ctx → ⊥) where
      none_deleted : (t : plain.Expr) → HasClass t e → deleted t ≡ None
      none_deleted (plain.Attribute _ _ _) h = absurd (no_attribute h.0 h.1 h.2 h.3)
      none_deleted (plain.Subscript _ _ _) h = absurd (no_subscript h.0 h.1 h.2 h.3)
      none_deleted (plain.Name _ _) h = absurd (no_name h.0 h.1 h.2)
      none_deleted (plain.ListOf _ _) h = absurd (no_list h.0 h.1 h.2)
      none_deleted (plain.Tuple _ _) h = absurd (no_tuple h.0 h.1 h.2)
      none_deleted _ h = refl

      pub not_deleted : deleted (tree_of e) ≡ None
      not_deleted = none_deleted (tree_of e) (has_class e)
