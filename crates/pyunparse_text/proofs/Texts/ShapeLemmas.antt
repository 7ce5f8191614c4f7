-- Carries: is_bare_tuple, annotated_in_brackets, and is_generator, write_alone, write_item_target of
-- pyunparse. An expression of the program has the shape that its value has.
use Rattle.std.proofs.Common.{◌≡◌, Bool, false, [], Option, Global, refl}
use Rattle.std.specs.declared.vec.Vec.{Vec}
use Rattle.std.specs.declared.boxed.Box.{Box}
use Rattle.pytree_node.specs.declared.operators.Context.{Context}
use Rattle.pytree_node.specs.declared.expressions.Expr.{Expr}
use Rattle.pytree_node.specs.declared.expressions.Expr.TheVariants as variant
use Rattle.pytree_node.specs.declared.expressions.Comprehension.{Comprehension}
use Rattle.pytree_node.specs.Trees as plain
use Rattle.pytree_node.specs.Trees.{Identifier}
use Rattle.pytree_node.specs.TreeOf.{tree_of}
use Rattle.pygrammar.specs.declared.levels.Level.TheVariants.{Expression}
use Rattle.pyunparse_text.specs.Pieces.{piece, pieces}
use Rattle.pyunparse_text.specs.Statements.{annotated_in_brackets, item_target, reads_as_items}
use Rattle.pyunparse_text.specs.Written.{alone, written}
use Rattle.pyunparse_text.specs.Sorts.{is_generator}
use Rattle.pytree_node.proofs.Callers.ExprClasses.{HasClass, has_class}

-- an expression of no such shape
module _ (e : Expr) where
  module _ (no_generator : (elt : Box Expr Global) (generators : Vec Comprehension Global)
      → e ≡ variant.GeneratorExp elt generators → ⊥) where
    none_generated : (t : plain.Expr) → HasClass t e → is_generator t ≡ false
    none_generated (plain.GeneratorExp _ _) h = absurd (no_generator h.0 h.1 h.2)
    none_generated _ h = refl

    pub not_generator : is_generator (tree_of e) ≡ false
    not_generator = none_generated (tree_of e) (has_class e)

    none_alone : (t : plain.Expr) → HasClass t e → alone piece (plain.an_expr t plain.no_exprs) ≡ []
    unfolding written
    none_alone (plain.GeneratorExp _ _) h = absurd (no_generator h.0 h.1 h.2)
    none_alone _ h = refl

    pub not_alone : alone piece (plain.an_expr (tree_of e) plain.no_exprs) ≡ []
    not_alone = none_alone (tree_of e) (has_class e)

  module _ (no_starred : (value : Box Expr Global) (ctx : Context) → e ≡ variant.Starred value ctx → ⊥) where
    none_starred : (t : plain.Expr) → HasClass t e → item_target piece t ≡ pieces Expression t
    none_starred (plain.Starred _ _) h = absurd (no_starred h.0 h.1 h.2)
    none_starred _ h = refl

    pub not_starred : item_target piece (tree_of e) ≡ pieces Expression (tree_of e)
    not_starred = none_starred (tree_of e) (has_class e)

  module _ (no_name : (id : Identifier) (ctx : Context) → e ≡ variant.Name id ctx → ⊥) where
    none_in_brackets : (t : plain.Expr) → HasClass t e → (simple : Bool) → annotated_in_brackets t simple ≡ false
    none_in_brackets (plain.Name _ _) h simple = absurd (no_name h.0 h.1 h.2)
    none_in_brackets _ h simple = refl

    pub not_in_brackets : (simple : Bool) → annotated_in_brackets (tree_of e) simple ≡ false
    not_in_brackets = none_in_brackets (tree_of e) (has_class e)

  module _ (no_tuple : (elts : Vec Expr Global) (ctx : Context) → e ≡ variant.Tuple elts ctx → ⊥) where
    none_tuple : (t : plain.Expr) → HasClass t e → (o : Option plain.Expr) → reads_as_items t o ≡ false
    none_tuple (plain.Tuple _ _) h o = absurd (no_tuple h.0 h.1 h.2)
    none_tuple _ h o = refl

    pub not_tuple : (o : Option plain.Expr) → reads_as_items (tree_of e) o ≡ false
    not_tuple = none_tuple (tree_of e) (has_class e)
