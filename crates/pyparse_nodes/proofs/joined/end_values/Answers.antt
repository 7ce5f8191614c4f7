use Rattle.std.proofs.Common.{◌∙◌, sym, ap}
use Rattle.pytree_height.specs.Heights.{height}
use Rattle.pytree_node.proofs.Callers.ExprShapes.{constant_tree}
use Rattle.pytree_node.specs.Trees as plain
use Rattle.pyparse_nodes.proofs.Callers.Pushes.{pushed_height}
use Rattle.pyparse_nodes.proofs.JoinedTexts.{is_full, put_constant}
use Rattle.pyparse_nodes.proofs.joined.end_values.Goals as goal

pub invariant_of-result-2 : goal.invariant_of-result-2
invariant_of-result-2 c = record {
  is_height = c.max.ensures ∙ pushed_height c.args.before.values.items c.append.new.items.items _ c.args.before.height 1
      c.in_ok-append.ensures.put c.args.before.is_height (sym (ap height (constant_tree _)));
}

pub returns-clause-values : goal.returns-clause-values
returns-clause-values c = put_constant c.args.before.values.items c.append.new.items.items _ c.args.unicode c.args.before.text
    c.in_ok-append.ensures.put (constant_tree _ ∙ ap plain.Constant c.text-value.ensures)
    (λ e. is_full c.as_slice.result.now c.is_empty.result c.is_empty.ensures
    c.if-is_empty.false (c.as_slice.ensures.value ∙ e))
