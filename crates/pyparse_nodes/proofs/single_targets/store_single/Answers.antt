use Rattle.std.proofs.Common.{sym, ap, ◌∙◌, Some}
use Rattle.pytree_node.specs.declared.expressions.Expr as given
use Rattle.pytree_node.specs.declared.operators.Context.TheVariants.{Store}
use Rattle.pytree_node.specs.TreeOf.{tree_of}
use Rattle.pygrammar.specs.Targets.{single_stored}
use Rattle.pytree_node.proofs.Callers.ExprShapes.{attribute_tree, subscript_tree, name_tree}
use Rattle.pyparse_nodes.proofs.Stores.TargetShapes.{not_single}
use Rattle.pyparse_nodes.proofs.single_targets.store_single.Goals as goal

pub returns-in-Name : goal.returns-in-Name
unfolding given.out-Expr tree_of denote.Hole.Carrier.out
returns-in-Name c = rw c.in-Name.is (ap (λ e. single_stored e) (name_tree c.in-Name.id c.in-Name.ctx)
    ∙ ap (λ e. Some e) (sym (name_tree c.in-Name.id Store)))

pub returns-in-Attribute : goal.returns-in-Attribute
unfolding given.out-Expr tree_of denote.Hole.Carrier.out
returns-in-Attribute c =
    rw c.in-Attribute.is (ap (λ e. single_stored e) (attribute_tree c.in-Attribute.value c.in-Attribute.attr c.in-Attribute.ctx)
    ∙ ap (λ e. Some e) (sym (attribute_tree c.in-Attribute.value c.in-Attribute.attr Store)))

pub returns-in-Subscript : goal.returns-in-Subscript
unfolding given.out-Expr tree_of denote.Hole.Carrier.out
returns-in-Subscript c =
    rw c.in-Subscript.is (ap (λ e. single_stored e) (subscript_tree c.in-Subscript.value c.in-Subscript.slice c.in-Subscript.ctx)
    ∙ ap (λ e. Some e) (sym (subscript_tree c.in-Subscript.value c.in-Subscript.slice Store)))

pub returns-in_default : goal.returns-in_default
returns-in_default c = not_single c.args.e.now c.in_default.not-Attribute c.in_default.not-Subscript c.in_default.not-Name
