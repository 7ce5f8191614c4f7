use Rattle.std.proofs.Common.{◌≡◌, map, take}
use Rattle.pytree_node.specs.TreeOf.{item_of}
use Rattle.pytree_height.specs.Heights.{capped, item_heights}
use Rattle.pytree_height.proofs.highest.items_height.Given as goal

abbrev pub invariant-loop-item : goal.invariant-loop-item
invariant-loop-item l = l.most ≡ capped (item_heights (map item_of (take l.item-index l.fn.items)))
