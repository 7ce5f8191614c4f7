use Rattle.std.proofs.Common.{refl, sym, ap, ◌∙◌, Some, Global, arith}
use Rattle.std.specs.declared.vec.Vec.{Vec}
use Rattle.pytree_node.specs.declared.expressions.Expr as given
use Rattle.pytree_node.specs.declared.expressions.Expr.{Expr}
use Rattle.pytree_node.specs.declared.operators.Context.TheVariants.{Del}
use Rattle.pytree_node.specs.TreeOf.{tree_of}
use Rattle.pygrammar.specs.Targets.{all_deleted, deleted}
use Rattle.pytree_node.proofs.Callers.ExprShapes.{attribute_tree, subscript_tree, name_tree}
use Rattle.pyparse_nodes.proofs.Stores.TargetShapes.{not_deleted}
use Rattle.pyparse_nodes.proofs.Stores.Changes.{list_changed, tuple_changed, refilled, one_fails, all_changed}
use Rattle.pyparse_nodes.proofs.deletions.+deletions.Goals as goal

pub delete-returns-in-Name : goal.delete-returns-in-Name
unfolding given.out-Expr tree_of denote.Hole.Carrier.out
delete-returns-in-Name t c = rw c.in-Name.is (ap (λ e. deleted e) (name_tree c.in-Name.id c.in-Name.ctx)
    ∙ ap (λ e. Some e) (sym (name_tree c.in-Name.id Del)))

pub delete-returns-in-Attribute : goal.delete-returns-in-Attribute
unfolding given.out-Expr tree_of denote.Hole.Carrier.out
delete-returns-in-Attribute t c =
    rw c.in-Attribute.is (ap (λ e. deleted e) (attribute_tree c.in-Attribute.value c.in-Attribute.attr c.in-Attribute.ctx)
    ∙ ap (λ e. Some e) (sym (attribute_tree c.in-Attribute.value c.in-Attribute.attr Del)))

pub delete-returns-in-Subscript : goal.delete-returns-in-Subscript
unfolding given.out-Expr tree_of denote.Hole.Carrier.out
delete-returns-in-Subscript t c =
    rw c.in-Subscript.is (ap (λ e. deleted e) (subscript_tree c.in-Subscript.value c.in-Subscript.slice c.in-Subscript.ctx)
    ∙ ap (λ e. Some e) (sym (subscript_tree c.in-Subscript.value c.in-Subscript.slice Del)))

pub delete-returns-in-Tuple : goal.delete-returns-in-Tuple
delete-returns-in-Tuple t c = tuple_changed deleted all_deleted Del c.args.e.now c.in-Tuple.elts _ c.in-Tuple.ctx c.delete_all.result
    c.deref_mut.result.now c.delete_all.new.es
    (c.deref_mut.ensures.value ∙ ap (λ (v : Vec Expr Global). v.items) c.in-Tuple.elts-is)
    (refilled _ _ c.delete_all.new.es (c.delete_all.auto.es ∙ c.deref_mut.ensures.len)) c.delete_all.ensures (λ es. refl) c.in-Tuple.is

pub delete-returns-in-List : goal.delete-returns-in-List
delete-returns-in-List t c = list_changed deleted all_deleted Del c.args.e.now c.in-List.elts _ c.in-List.ctx c.delete_all-in-List.result
    c.deref_mut-in-List.result.now c.delete_all-in-List.new.es
    (c.deref_mut-in-List.ensures.value ∙ ap (λ (v : Vec Expr Global). v.items) c.in-List.elts-is)
    (refilled _ _ c.delete_all-in-List.new.es (c.delete_all-in-List.auto.es ∙ c.deref_mut-in-List.ensures.len)) c.delete_all-in-List.ensures
    (λ es. refl) c.in-List.is

pub delete-returns-in_default : goal.delete-returns-in_default
delete-returns-in_default t c = not_deleted c.args.e.now c.in_default.not-Attribute c.in_default.not-Subscript c.in_default.not-Name
    c.in_default.not-List c.in_default.not-Tuple

pub delete_all-returns-then-not-delete : goal.delete_all-returns-then-not-delete
delete_all-returns-then-not-delete t c = one_fails deleted all_deleted refl (λ e es. refl) c.args.es.now c.loop-e.e-index
    c.e-item.result c.loop-e-test.true
    (ap (λ e. deleted (tree_of e)) (sym (c.loop-e.invariant.rest.1 c.loop-e.e-index c.e-item.result (omega arith)))
    ∙ c.if-not-delete.ensures)

pub delete_all-returns : goal.delete_all-returns
delete_all-returns t c = all_changed deleted all_deleted refl (λ e es. refl) c.args.es.now c.loop-e.e-items (sym c.loop-e.auto.e-items)
    (λ k d m. c.loop-e.invariant.done k d (omega (arith, m, c.loop-e-test.false)))
