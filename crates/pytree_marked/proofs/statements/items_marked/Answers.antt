use Rattle.std.proofs.Common.{◌+◌, arith, codes, map, refl}
use Rattle.pytree_node.specs.TreeOf.{item_of}
use Rattle.pytree_dump_text.specs.Shows.{no_field, shown, shown_items}
use Rattle.pytree_marked.specs.MarkedNodes.{marked, marked_rows}
use Rattle.pytree_marked.specs.MarkedOptions.{marked_option}
use Rattle.pytree_marked.proofs.Callers.Sums.{option_sum}
use Rattle.pytree_marked.proofs.CountLemmas.{counted, none_counted, two_on}
use Rattle.pytree_marked.proofs.statements.items_marked.Goals as goal

pub loop-item-preserved : goal.loop-item-preserved
loop-item-preserved c = counted (λ xs. marked_rows (shown_items (map item_of xs)))
    (λ i. marked (shown (item_of i).context_expr) + marked_option (item_of i).optional_vars) refl (λ i _. let m =
    option_sum (codes "optional_vars") (item_of i).optional_vars no_field in omega (arith, m)) _ _
    c.loop-item-test.true c.item-item.is c.loop-item.invariant (two_on _ _ _ c.expr_marked.ensures c.option_marked-count.ensures)

pub loop-item-init : goal.loop-item-init
loop-item-init c = none_counted (λ xs. marked_rows (shown_items (map item_of xs))) c.args.items.now c.args.before refl (omega arith)
