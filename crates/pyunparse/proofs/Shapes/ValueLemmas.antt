-- Carries: the functions of strings and of their texts. Constants, and expressions of the program,
-- by their shapes.
use Rattle.std.proofs.Common.{◌≡◌, ◌∙◌, ℕ, ◌==◌, Bool, true, false, List, [], ◌∷◌, map, length, get_or, Option, Global, refl, ap, sym}
use Rattle.std.proofs.lemmas.Bool.{false≢true}
use Rattle.std.specs.declared.vec.Vec.{Vec}
use Rattle.std.specs.declared.boxed.Box.{Box}
use Rattle.pyfstring.specs.declared.parts.Conversion.{Conversion}
use Rattle.pytree_node.specs.declared.constants.Constant.{Constant}
use Rattle.pytree_node.specs.declared.expressions.Expr.{Expr}
use Rattle.pytree_node.specs.declared.expressions.Expr.TheVariants as variant
use Rattle.pytree_node.specs.Values as values
use Rattle.pytree_node.specs.Trees as plain
use Rattle.pytree_node.specs.Trees.{Exprs, an_expr, exprs, no_exprs, present}
use Rattle.pytree_node.specs.TreeOf.{tree_of}
use Rattle.pyunparse_text.specs.Pieces.{piece}
use Rattle.pyunparse_text.specs.Written.{first_text, is_unicode, is_unicode_spec, spec_elements, written}
use Rattle.pyunparse_text.proofs.Callers.Writing.{not_zero}
use Rattle.pytree_node.proofs.Callers.ExprClasses.{HasClass, has_class}
use Rattle.pyunparse.specs.Inner.Values.{value_elements}

-- ---- Expressions.

-- an expression of no such shape
module _ (e : Expr) where
  module _ (no_constant : (value : Constant) → e ≡ variant.Constant value → ⊥) where
    none_text : (t : plain.Expr) → HasClass t e → first_text (an_expr t no_exprs) ≡ []
    none_text (plain.Constant _) h = absurd (no_constant h.0 h.1)
    none_text _ h = refl

    pub not_text : first_text (an_expr (tree_of e) no_exprs) ≡ []
    not_text = none_text (tree_of e) (has_class e)

  module _ (no_field : (value : Box Expr Global) (conversion : Conversion) (spec : Option (Box Expr Global)) →
      e ≡ variant.FormattedValue value conversion spec → ⊥) where
    none_elements : (t : plain.Expr) → HasClass t e → (b : Bool) (text : List ℕ) → value_elements b t text ≡ []
    none_elements (plain.FormattedValue _ _ _) h b text = absurd (no_field h.0 h.1 h.2 h.3)
    none_elements _ h b text = refl

    pub not_field : (b : Bool) (text : List ℕ) → value_elements b (tree_of e) text ≡ []
    not_field = none_elements (tree_of e) (has_class e)

    module _ (no_constant : (value : Constant) → e ≡ variant.Constant value → ⊥) where
      none_unicode : (t : plain.Expr) → HasClass t e → is_unicode (an_expr t no_exprs) ≡ false
      none_unicode (plain.Constant _) h = absurd (no_constant h.0 h.1)
      none_unicode (plain.FormattedValue _ _ _) h = absurd (no_field h.0 h.1 h.2 h.3)
      none_unicode _ h = refl

      pub not_unicode : is_unicode (an_expr (tree_of e) no_exprs) ≡ false
      not_unicode = none_unicode (tree_of e) (has_class e)

  module _ (no_string : (values : Vec Expr Global) → e ≡ variant.JoinedStr values → ⊥) where
    none_spec : (t : plain.Expr) → HasClass t e → spec_elements piece (present t) ≡ []
    unfolding written
    none_spec (plain.JoinedStr _) h = absurd (no_string h.0 h.1)
    none_spec _ h = refl

    pub not_spec : spec_elements piece (present (tree_of e)) ≡ []
    not_spec = none_spec (tree_of e) (has_class e)

    none_unicode_spec : (t : plain.Expr) → HasClass t e → is_unicode_spec (present t) ≡ false
    none_unicode_spec (plain.JoinedStr _) h = absurd (no_string h.0 h.1)
    none_unicode_spec _ h = refl

    pub not_unicode_spec : is_unicode_spec (present (tree_of e)) ≡ false
    not_unicode_spec = none_unicode_spec (tree_of e) (has_class e)

-- ---- Values, by the first of them.

first_alone : (e : plain.Expr) (es : Exprs) → first_text (an_expr e es) ≡ first_text (an_expr e no_exprs)
first_alone (plain.Constant (values.Str t u)) es = refl
first_alone (plain.Constant _) es = refl
first_alone _ es = refl

pub first_none : (xs : List Expr) (b : Bool) → b ≡ (length xs == 0) → b ≡ true → first_text (exprs (map tree_of xs)) ≡ []
first_none [] b h e = refl
first_none (x ∷ xs) b h e = absurd (false≢true (sym (not_zero (length xs)) ∙ sym h ∙ e))

pub first_read : (xs : List Expr) (x : Expr) (b : Bool) → b ≡ (length xs == 0) → b ≡ false → x ≡ get_or xs 0 x →
    first_text (exprs (map tree_of xs)) ≡ first_text (an_expr (tree_of x) no_exprs)
first_read [] x b h e read = absurd (false≢true (sym e ∙ h))
first_read (y ∷ xs) x b h e read = first_alone (tree_of y) (exprs (map tree_of xs))
    ∙ ap (λ z. first_text (an_expr (tree_of z) no_exprs)) (sym read)
