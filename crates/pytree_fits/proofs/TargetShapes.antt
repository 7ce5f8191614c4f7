-- An expression of the program that is no target of a class has a value that is none.
--
-- Carries: is_a_name, is_starred, is_single, target_fits. On: Shapes.
use Rattle.std.proofs.Common.{◌≡◌, Global, refl, false}
use Rattle.std.specs.declared.vec.Vec.{Vec}
use Rattle.std.specs.declared.boxed.Box.{Box}
use Rattle.pytree_node.specs.declared.operators.Context.{Context}
use Rattle.pytree_node.specs.declared.expressions.Expr.{Expr}
use Rattle.pytree_node.specs.declared.expressions.Expr.TheVariants as variant
use Rattle.pytree_node.specs.Trees as plain
use Rattle.pytree_node.specs.Trees.{Identifier}
use Rattle.pytree_node.specs.TreeOf.{tree_of}
use Rattle.pytree_fits.specs.Tests.{Tests}
use Rattle.pytree_fits.specs.Slots.{is_a_name, is_starred, is_single, fits_target}
use Rattle.pytree_node.proofs.Callers.ExprClasses.{HasClass, has_class}

-- an expression of no such shape
module _ (e : Expr) where
  no_name_is : (t : plain.Expr) → HasClass t e → ((id : Identifier) (ctx : Context) → e ≡ variant.Name id ctx → ⊥) → is_a_name t ≡ false
  no_name_is (plain.Name _ _) h s = absurd (s h.0 h.1 h.2)
  no_name_is _ h s = refl

  pub not_a_name : ((id : Identifier) (ctx : Context) → e ≡ variant.Name id ctx → ⊥) → is_a_name (tree_of e) ≡ false
  not_a_name s = no_name_is (tree_of e) (has_class e) s

  no_star_is : (t : plain.Expr) → HasClass t e → ((value : Box Expr Global) (ctx : Context) → e ≡ variant.Starred value ctx
      → ⊥) → is_starred t ≡ false
  no_star_is (plain.Starred _ _) h s = absurd (s h.0 h.1 h.2)
  no_star_is _ h s = refl

  pub not_starred : ((value : Box Expr Global) (ctx : Context) → e ≡ variant.Starred value ctx → ⊥) → is_starred (tree_of e) ≡ false
  not_starred s = no_star_is (tree_of e) (has_class e) s

  module _
      (no_attribute : (value : Box Expr Global) (attr : Identifier) (ctx : Context) → e ≡ variant.Attribute value attr ctx → ⊥)
      (no_subscript : (value : Box Expr Global) (slice : Box Expr Global) (ctx : Context) → e ≡ variant.Subscript value slice ctx → ⊥)
      (no_name : (id : Identifier) (ctx : Context) → e ≡ variant.Name id ctx → ⊥) where
    no_single_is : (t : plain.Expr) → HasClass t e → is_single t ≡ false
    no_single_is (plain.Attribute _ _ _) h = absurd (no_attribute h.0 h.1 h.2 h.3)
    no_single_is (plain.Subscript _ _ _) h = absurd (no_subscript h.0 h.1 h.2 h.3)
    no_single_is (plain.Name _ _) h = absurd (no_name h.0 h.1 h.2)
    no_single_is _ h = refl

    pub not_single : is_single (tree_of e) ≡ false
    not_single = no_single_is (tree_of e) (has_class e)

    module _
        (no_starred : (value : Box Expr Global) (ctx : Context) → e ≡ variant.Starred value ctx → ⊥)
        (no_list : (elts : Vec Expr Global) (ctx : Context) → e ≡ variant.List elts ctx → ⊥)
        (no_tuple : (elts : Vec Expr Global) (ctx : Context) → e ≡ variant.Tuple elts ctx → ⊥) where
      no_target_is : (n : Tests) (k : Context) (t : plain.Expr) → HasClass t e → fits_target n k t ≡ false
      no_target_is n k (plain.Attribute _ _ _) h = absurd (no_attribute h.0 h.1 h.2 h.3)
      no_target_is n k (plain.Subscript _ _ _) h = absurd (no_subscript h.0 h.1 h.2 h.3)
      no_target_is n k (plain.Starred _ _) h = absurd (no_starred h.0 h.1 h.2)
      no_target_is n k (plain.Name _ _) h = absurd (no_name h.0 h.1 h.2)
      no_target_is n k (plain.ListOf _ _) h = absurd (no_list h.0 h.1 h.2)
      no_target_is n k (plain.Tuple _ _) h = absurd (no_tuple h.0 h.1 h.2)
      no_target_is n k _ h = refl

      pub not_target : (n : Tests) (k : Context) → fits_target n k (tree_of e) ≡ false
      not_target n k = no_target_is n k (tree_of e) (has_class e)
