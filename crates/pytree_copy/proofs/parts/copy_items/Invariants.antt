use Rattle.std.proofs.Common.{◌≡◌, map, take}
use Rattle.pytree_node.specs.TreeOf.{item_of}
use Rattle.pytree_copy.proofs.parts.copy_items.Given as goal

abbrev pub invariant-loop-item : goal.invariant-loop-item
invariant-loop-item l = map item_of l.made.items ≡ map item_of (take l.item-index l.fn.items)
