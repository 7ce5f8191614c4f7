use Rattle.std.proofs.Common.{map, max, refl}
use Rattle.pytree_node.specs.TreeOf.{item_of}
use Rattle.pytree_height.specs.Heights.{height, option_height, item_heights}
use Rattle.pytree_height.proofs.CapLemmas.{higher, two}
use Rattle.pytree_height.proofs.highest.items_height.Goals as goal

pub loop-item-preserved : goal.loop-item-preserved
loop-item-preserved c = higher (λ items. item_heights (map item_of items))
    (λ i. max (height (item_of i).context_expr) (option_height (item_of i).optional_vars)) refl (λ _ _. refl) _
    c.loop-item-test.true c.item-item.is c.loop-item.invariant (two _ _ c.expr_height.ensures c.option_height.ensures c.max-here.ensures)
    c.max-most.ensures
