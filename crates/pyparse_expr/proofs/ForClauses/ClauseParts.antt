-- A clause of a comprehension, by its parts.
--
-- Carries: clause_of. On: comprehension_tree, stored_height.
use Rattle.std.proofs.Common.{◌≡◌, sym, ap, ◌∙◌, arith, ℕ, [], ◌∷◌, map, max, Global, Some, Bool}
use Rattle.std.specs.declared.vec.Vec.{Vec}
use Rattle.pytree_node.specs.declared.expressions.Expr.{Expr}
use Rattle.pytree_node.specs.declared.expressions.Expr.TheOpen as layer
use Rattle.pytree_node.specs.declared.expressions.Arg.{Arg}
use Rattle.pytree_node.specs.declared.expressions.Arguments.{Arguments}
use Rattle.pytree_node.specs.declared.expressions.Comprehension as given
use Rattle.pytree_node.specs.declared.expressions.Comprehension.{Comprehension}
use Rattle.pytree_node.specs.declared.expressions.Keyword.{Keyword}
use Rattle.pytree_node.specs.declared.expressions.Call.{Call}
use Rattle.pytree_node.specs.declared.expressions.Compare.{Compare}
use Rattle.pytree_node.specs.declared.expressions.Dict.{Dict}
use Rattle.pytree_node.specs.declared.expressions.DictComp.{DictComp}
use Rattle.pytree_node.specs.declared.expressions.Slice.{Slice}
use Rattle.pytree_node.specs.Trees as plain
use Rattle.pytree_node.specs.Trees.{comprehensions}
use Rattle.pytree_node.specs.TreeOf.{comprehension_of, tree_of}
use Rattle.pytree_node.proofs.Callers.ExprShapes.{comprehension_tree}
use Rattle.pytree_height.specs.Heights.{comprehension_heights, height, list_height}
use Rattle.pygrammar.specs.Reader.{generator_of}
use Rattle.pygrammar.specs.Targets.{stored}
use Rattle.pygrammar.proofs.Callers.Entries.{stored_height}

abbrev Layer : Type 0
Layer = layer.Comprehension-F Expr Arg Arguments Call Compare Comprehension Dict DictComp Keyword Slice

-- its value, of its fields
abbrev valued : Layer → plain.Comprehension
valued o = record { target = tree_of o.target; iter = tree_of o.iter; ifs = map tree_of o.ifs.items; is_async = o.is_async }

parts_tree : (o : Layer) → comprehension_of (given.roll-Comprehension o) ≡ valued o
parts_tree o = comprehension_tree (given.roll-Comprehension o) ∙ ap valued (given.out-roll-Comprehension o)

module _ (a b i j new : Expr) (cs : Vec Expr Global) (is_async : Bool) (p : a ≡ b) (q : j ≡ i)
    (s : stored (tree_of a) ≡ Some (tree_of new)) where
  abbrev parts : Layer
  parts = record { target = new; iter = j; ifs = cs; is_async = is_async }

  pub clause_is : Some (comprehension_of (given.roll-Comprehension parts)) ≡ generator_of (stored (tree_of b)) (tree_of i)
      (map tree_of cs.items) is_async
  clause_is =
      ap (λ g. Some g) (parts_tree parts)
      ∙ ap (λ e. generator_of (Some (tree_of new)) (tree_of e) (map tree_of cs.items) is_async) q
      ∙ sym (ap (λ e. generator_of (stored (tree_of e)) (tree_of i) (map tree_of cs.items) is_async) (sym p)
      ∙ ap (λ o. generator_of o (tree_of i) (map tree_of cs.items) is_async) s)

  pub clause_height : (h k l : ℕ) → h ≡ height (tree_of b) → k ≡ height (tree_of i) → l ≡ list_height (map tree_of cs.items)
      → max h (max k l) ≡ comprehension_heights (comprehensions (comprehension_of (given.roll-Comprehension parts) ∷ []))
  clause_height h k l f g m =
      let e : comprehension_heights (comprehensions (comprehension_of (given.roll-Comprehension parts) ∷ [])) ≡ comprehension_heights
      (comprehensions (valued parts ∷ [])) = ap (λ z. comprehension_heights (comprehensions (z ∷ []))) (parts_tree parts) in
      omega (arith, f, g, m, e, stored_height (tree_of a) (tree_of new) s, ap (λ y. height (tree_of y)) p, ap (λ y. height (tree_of y)) q)
