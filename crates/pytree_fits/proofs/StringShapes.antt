-- An expression of the program that is no part of an f-string has a value that is none.
--
-- Carries: is_text, value_fits, spec_fits, has_kind, spec_has_kind. On: Shapes.
use Rattle.std.proofs.Common.{◌≡◌, Global, Option, refl, sym, ap, ◌∙◌, ℕ, map, Bool, true, false}
use Rattle.std.specs.Prelude.{◌&&◌}
use Rattle.std.specs.declared.boxed.Box.{Box}
use Rattle.std.specs.declared.vec.Vec.{Vec}
use Rattle.pyfstring.specs.declared.parts.Conversion.{Conversion}
use Rattle.pytree_node.specs.declared.constants.Constant.{Constant}
use Rattle.pytree_node.specs.declared.expressions.Expr.{Expr}
use Rattle.pytree_node.specs.declared.expressions.Expr.TheVariants as variant
use Rattle.pytree_node.specs.Trees as plain
use Rattle.pytree_node.specs.Trees.{present, exprs}
use Rattle.pytree_node.specs.TreeOf.{tree_of}
use Rattle.pytree_node.proofs.Callers.ExprShapes.{joined_str_tree}
use Rattle.pytree_fits.specs.Tests.{Tests}
use Rattle.pytree_fits.specs.Slots.{is_text, are_apart, each_value_fits, have_kind, value_fits, spec_fits, has_kind, spec_has_kind}
use Rattle.pytree_node.proofs.Callers.ExprClasses.{HasClass, has_class}

module _ (e : Expr) (no_constant : (value : Constant) → e ≡ variant.Constant value → ⊥) where
  no_text_is : (t : plain.Expr) → HasClass t e → is_text t ≡ false
  no_text_is (plain.Constant _) h = absurd (no_constant h.0 h.1)
  no_text_is _ h = refl

  pub not_text : is_text (tree_of e) ≡ false
  not_text = no_text_is (tree_of e) (has_class e)

  module _ (no_field : (value : Box Expr Global) (conversion : Conversion) (spec : Option (Box Expr Global))
      → e ≡ variant.FormattedValue value conversion spec → ⊥) where
    no_value_is : (n : Tests) (d : ℕ) (t : plain.Expr) → HasClass t e → value_fits n d t ≡ false
    no_value_is n d (plain.Constant _) h = absurd (no_constant h.0 h.1)
    no_value_is n d (plain.FormattedValue _ _ _) h = absurd (no_field h.0 h.1 h.2 h.3)
    no_value_is n d _ h = refl

    pub not_value : (n : Tests) (d : ℕ) → value_fits n d (tree_of e) ≡ false
    not_value n d = no_value_is n d (tree_of e) (has_class e)

    any_kind_is : (u s : Bool) (t : plain.Expr) → HasClass t e → has_kind u s t ≡ true
    any_kind_is u s (plain.Constant _) h = absurd (no_constant h.0 h.1)
    any_kind_is u s (plain.FormattedValue _ _ _) h = absurd (no_field h.0 h.1 h.2 h.3)
    any_kind_is u s _ h = refl

    pub any_kind : (u s : Bool) → has_kind u s (tree_of e) ≡ true
    any_kind u s = any_kind_is u s (tree_of e) (has_class e)

module _ (e : Expr) (no_joined : (values : Vec Expr Global) → e ≡ variant.JoinedStr values → ⊥) where
  no_spec_is : (n : Tests) (d : ℕ) (t : plain.Expr) → HasClass t e → spec_fits n d (present t) ≡ false
  no_spec_is n d (plain.JoinedStr _) h = absurd (no_joined h.0 h.1)
  no_spec_is n d _ h = refl

  pub not_spec : (n : Tests) (d : ℕ) → spec_fits n d (present (tree_of e)) ≡ false
  not_spec n d = no_spec_is n d (tree_of e) (has_class e)

  any_spec_is : (u : Bool) (t : plain.Expr) → HasClass t e → spec_has_kind u (present t) ≡ true
  any_spec_is u (plain.JoinedStr _) h = absurd (no_joined h.0 h.1)
  any_spec_is u _ h = refl

  pub any_spec : (u : Bool) → spec_has_kind u (present (tree_of e)) ≡ true
  any_spec u = any_spec_is u (tree_of e) (has_class e)

-- one that is a JoinedStr
module _ (e : Expr) (values : Vec Expr Global) (is : e ≡ variant.JoinedStr values) where
  joined_tree : tree_of e ≡ plain.JoinedStr (exprs (map tree_of values.items))
  joined_tree = ap tree_of is ∙ joined_str_tree values

  pub joined_kind : (u : Bool) → have_kind u true (exprs (map tree_of values.items)) ≡ spec_has_kind u (present (tree_of e))
  joined_kind u = ap (λ t. spec_has_kind u (present t)) (sym joined_tree)

  pub joined_spec : (n : Tests) (d : ℕ)
      → (are_apart false (exprs (map tree_of values.items)) && each_value_fits n d (exprs (map tree_of values.items))) ≡ spec_fits
      n d (present (tree_of e))
  joined_spec n d = ap (λ t. spec_fits n d (present t)) (sym joined_tree)
