-- An expression of the program that is no value of a pattern of a class has a value that is none.
--
-- Carries: number_fits, imaginary_fits, real_fits, literal_fits, singleton_fits, is_attribute,
-- dotted_fits, starts_wild. On: Shapes.
use Rattle.std.proofs.Common.{◌≡◌, Global, refl, false}
use Rattle.std.specs.declared.boxed.Box.{Box}
use Rattle.std.specs.declared.vec.Vec.{Vec}
use Rattle.pytree_node.specs.declared.operators.Operator.{Operator}
use Rattle.pytree_node.specs.declared.operators.UnaryOperator.{UnaryOperator}
use Rattle.pytree_node.specs.declared.operators.Context.{Context}
use Rattle.pytree_node.specs.declared.constants.Constant.{Constant}
use Rattle.pytree_node.specs.declared.expressions.Expr.{Expr}
use Rattle.pytree_node.specs.declared.expressions.Expr.TheVariants as variant
use Rattle.pytree_node.specs.Trees as plain
use Rattle.pytree_node.specs.Trees.{Identifier}
use Rattle.pytree_node.specs.TreeOf.{tree_of}
use Rattle.pytree_fits.specs.Tests.{Tests}
use Rattle.pytree_fits.specs.PatternSlots.{number_fits, imaginary_fits, real_fits, literal_fits, dotted_fits, is_attribute, starts_wild}
use Rattle.pytree_fits.specs.PatternSlots.{singleton_fits}
use Rattle.pytree_node.proofs.Callers.ExprClasses.{HasClass, has_class}

module _ (e : Expr) where
  module _ (no_constant : (value : Constant) → e ≡ variant.Constant value → ⊥) where
    no_number_is : (n : Tests) (t : plain.Expr) → HasClass t e → number_fits n t ≡ false
    no_number_is n (plain.Constant _) h = absurd (no_constant h.0 h.1)
    no_number_is n _ h = refl

    pub not_number : (n : Tests) → number_fits n (tree_of e) ≡ false
    not_number n = no_number_is n (tree_of e) (has_class e)

    no_imaginary_is : (n : Tests) (t : plain.Expr) → HasClass t e → imaginary_fits n t ≡ false
    no_imaginary_is n (plain.Constant _) h = absurd (no_constant h.0 h.1)
    no_imaginary_is n _ h = refl

    pub not_imaginary : (n : Tests) → imaginary_fits n (tree_of e) ≡ false
    not_imaginary n = no_imaginary_is n (tree_of e) (has_class e)

    no_singleton_is : (t : plain.Expr) → HasClass t e → singleton_fits t ≡ false
    no_singleton_is (plain.Constant _) h = absurd (no_constant h.0 h.1)
    no_singleton_is _ h = refl

    pub not_singleton : singleton_fits (tree_of e) ≡ false
    not_singleton = no_singleton_is (tree_of e) (has_class e)

    -- after a minus
    no_minus_is : (n : Tests) (op : UnaryOperator) (t : plain.Expr) → HasClass t e → real_fits n (plain.UnaryOp op t) ≡ false
    no_minus_is n op (plain.Constant _) h = absurd (no_constant h.0 h.1)
    no_minus_is n op _ h = refl

    pub not_minus : (n : Tests) (op : UnaryOperator) → real_fits n (plain.UnaryOp op (tree_of e)) ≡ false
    not_minus n op = no_minus_is n op (tree_of e) (has_class e)

    module _ (no_unary : (op : UnaryOperator) (operand : Box Expr Global) → e ≡ variant.UnaryOp op operand → ⊥) where
      no_real_is : (n : Tests) (t : plain.Expr) → HasClass t e → real_fits n t ≡ false
      no_real_is n (plain.Constant _) h = absurd (no_constant h.0 h.1)
      no_real_is n (plain.UnaryOp _ _) h = absurd (no_unary h.0 h.1 h.2)
      no_real_is n _ h = refl

      pub not_real : (n : Tests) → real_fits n (tree_of e) ≡ false
      not_real n = no_real_is n (tree_of e) (has_class e)

      module _
          (no_binary : (left : Box Expr Global) (op : Operator) (right : Box Expr Global) → e ≡ variant.BinOp left op right → ⊥)
          (no_joined : (values : Vec Expr Global) → e ≡ variant.JoinedStr values → ⊥) where
        no_literal_is : (n : Tests) (t : plain.Expr) → HasClass t e → literal_fits n t ≡ false
        no_literal_is n (plain.Constant _) h = absurd (no_constant h.0 h.1)
        no_literal_is n (plain.UnaryOp _ _) h = absurd (no_unary h.0 h.1 h.2)
        no_literal_is n (plain.BinOp _ _ _) h = absurd (no_binary h.0 h.1 h.2 h.3)
        no_literal_is n (plain.JoinedStr _) h = absurd (no_joined h.0 h.1)
        no_literal_is n _ h = refl

        pub not_literal : (n : Tests) → literal_fits n (tree_of e) ≡ false
        not_literal n = no_literal_is n (tree_of e) (has_class e)

  module _ (no_attribute : (value : Box Expr Global) (attr : Identifier) (ctx : Context) → e ≡ variant.Attribute value attr ctx → ⊥) where
    no_attribute_is : (t : plain.Expr) → HasClass t e → is_attribute t ≡ false
    no_attribute_is (plain.Attribute _ _ _) h = absurd (no_attribute h.0 h.1 h.2 h.3)
    no_attribute_is _ h = refl

    pub not_attribute : is_attribute (tree_of e) ≡ false
    not_attribute = no_attribute_is (tree_of e) (has_class e)

    module _ (no_name : (id : Identifier) (ctx : Context) → e ≡ variant.Name id ctx → ⊥) where
      no_dotted_is : (n : Tests) (t : plain.Expr) → HasClass t e → dotted_fits n t ≡ false
      no_dotted_is n (plain.Attribute _ _ _) h = absurd (no_attribute h.0 h.1 h.2 h.3)
      no_dotted_is n (plain.Name _ _) h = absurd (no_name h.0 h.1 h.2)
      no_dotted_is n _ h = refl

      pub not_dotted : (n : Tests) → dotted_fits n (tree_of e) ≡ false
      not_dotted n = no_dotted_is n (tree_of e) (has_class e)

      no_start_is : (t : plain.Expr) → HasClass t e → starts_wild t ≡ false
      no_start_is (plain.Attribute _ _ _) h = absurd (no_attribute h.0 h.1 h.2 h.3)
      no_start_is (plain.Name _ _) h = absurd (no_name h.0 h.1 h.2)
      no_start_is _ h = refl

      pub not_started : starts_wild (tree_of e) ≡ false
      not_started = no_start_is (tree_of e) (has_class e)
