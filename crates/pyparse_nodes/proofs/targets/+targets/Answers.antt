use Rattle.std.proofs.Common.{refl, sym, ap, ◌∙◌, Some, Global, arith}
use Rattle.std.specs.declared.vec.Vec.{Vec}
use Rattle.std.specs.declared.boxed.Box.{Box}
use Rattle.pytree_node.specs.declared.expressions.Expr as given
use Rattle.pytree_node.specs.declared.expressions.Expr.{Expr}
use Rattle.pytree_node.specs.declared.operators.Context.TheVariants.{Store}
use Rattle.pytree_node.specs.TreeOf.{tree_of}
use Rattle.pygrammar.specs.Targets.{all_stored, stored}
use Rattle.pytree_node.proofs.Callers.ExprShapes.{attribute_tree, subscript_tree, name_tree}
use Rattle.pyparse_nodes.specs.Inner.Targets.{is_starred}
use Rattle.pyparse_nodes.proofs.Stores.TargetShapes.{not_stored}
use Rattle.pyparse_nodes.proofs.Stores.Changes.{list_changed, tuple_changed, refilled, one_fails, all_changed}
use Rattle.pyparse_nodes.proofs.Stores.TargetSteps.{star_changed, star_refused}
use Rattle.pyparse_nodes.proofs.targets.+targets.Goals as goal

pub store-returns-in-Name : goal.store-returns-in-Name
unfolding given.out-Expr tree_of denote.Hole.Carrier.out
store-returns-in-Name t c = rw c.in-Name.is (ap (λ e. stored e) (name_tree c.in-Name.id c.in-Name.ctx)
    ∙ ap (λ e. Some e) (sym (name_tree c.in-Name.id Store)))

pub store-returns-in-Attribute : goal.store-returns-in-Attribute
unfolding given.out-Expr tree_of denote.Hole.Carrier.out
store-returns-in-Attribute t c =
    rw c.in-Attribute.is (ap (λ e. stored e) (attribute_tree c.in-Attribute.value c.in-Attribute.attr c.in-Attribute.ctx)
    ∙ ap (λ e. Some e) (sym (attribute_tree c.in-Attribute.value c.in-Attribute.attr Store)))

pub store-returns-in-Subscript : goal.store-returns-in-Subscript
unfolding given.out-Expr tree_of denote.Hole.Carrier.out
store-returns-in-Subscript t c =
    rw c.in-Subscript.is (ap (λ e. stored e) (subscript_tree c.in-Subscript.value c.in-Subscript.slice c.in-Subscript.ctx)
    ∙ ap (λ e. Some e) (sym (subscript_tree c.in-Subscript.value c.in-Subscript.slice Store)))

pub store-returns-in-Tuple : goal.store-returns-in-Tuple
store-returns-in-Tuple t c = tuple_changed stored all_stored Store c.args.e.now c.in-Tuple.elts _ c.in-Tuple.ctx c.store_all.result
    c.deref_mut.result.now c.store_all.new.es
    (c.deref_mut.ensures.value ∙ ap (λ (v : Vec Expr Global). v.items) c.in-Tuple.elts-is)
    (refilled _ _ c.store_all.new.es (c.store_all.auto.es ∙ c.deref_mut.ensures.len)) c.store_all.ensures (λ es. refl) c.in-Tuple.is

pub store-returns-in-List : goal.store-returns-in-List
store-returns-in-List t c = list_changed stored all_stored Store c.args.e.now c.in-List.elts _ c.in-List.ctx c.store_all-in-List.result
    c.deref_mut-in-List.result.now c.store_all-in-List.new.es
    (c.deref_mut-in-List.ensures.value ∙ ap (λ (v : Vec Expr Global). v.items) c.in-List.elts-is)
    (refilled _ _ c.store_all-in-List.new.es (c.store_all-in-List.auto.es ∙ c.deref_mut-in-List.ensures.len)) c.store_all-in-List.ensures
    (λ es. refl) c.in-List.is

pub store-returns-then-not-is_starred : goal.store-returns-then-not-is_starred
store-returns-then-not-is_starred t c = star_changed c.args.e.now c.deref_mut-then-not-is_starred.result.now c.in-Starred.value _
    c.in-Starred.ctx c.store.result c.in-Starred.is
    (c.deref_mut-then-not-is_starred.ensures.value ∙ ap (λ (b : Box Expr Global). b.value) c.in-Starred.value-is)
    (sym (c.if-not-is_starred.ensures ∙ ap (λ e. is_starred (tree_of e)) (c.deref.ensures
    ∙ sym c.deref_mut-then-not-is_starred.ensures.value))) c.store.ensures

pub store-returns-else-not-is_starred : goal.store-returns-else-not-is_starred
store-returns-else-not-is_starred t c = star_refused c.args.e.now c.deref.result.now c.in-Starred.value c.in-Starred.ctx
    c.is_starred.result _ c.in-Starred.is
    (c.deref.ensures ∙ ap (λ (b : Box Expr Global). b.value) c.in-Starred.value-is) c.is_starred.ensures c.if-not-is_starred.false

pub store-returns-in_default : goal.store-returns-in_default
store-returns-in_default t c = not_stored c.args.e.now c.in_default.not-Attribute c.in_default.not-Subscript c.in_default.not-Starred
    c.in_default.not-Name c.in_default.not-List c.in_default.not-Tuple

pub store_all-returns-then-not-store : goal.store_all-returns-then-not-store
store_all-returns-then-not-store t c = one_fails stored all_stored refl (λ e es. refl) c.args.es.now c.loop-e.e-index
    c.e-item.result c.loop-e-test.true
    (ap (λ e. stored (tree_of e)) (sym (c.loop-e.invariant.rest.1 c.loop-e.e-index c.e-item.result (omega arith))) ∙ c.if-not-store.ensures)

pub store_all-returns : goal.store_all-returns
store_all-returns t c = all_changed stored all_stored refl (λ e es. refl) c.args.es.now c.loop-e.e-items (sym c.loop-e.auto.e-items)
    (λ k d m. c.loop-e.invariant.done k d (omega (arith, m, c.loop-e-test.false)))
