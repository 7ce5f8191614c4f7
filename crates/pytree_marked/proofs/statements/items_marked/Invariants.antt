use Rattle.std.proofs.Common.{◌≡◌, ◌+◌, map, take}
use Rattle.pytree_node.specs.TreeOf.{item_of}
use Rattle.pytree_dump_text.specs.Shows.{shown_items}
use Rattle.pytree_marked.specs.MarkedNodes.{marked_rows}
use Rattle.pytree_marked.specs.Counts.{capped}
use Rattle.pytree_marked.proofs.statements.items_marked.Given as goal

abbrev pub invariant-loop-item : goal.invariant-loop-item
invariant-loop-item l = l.count ≡ capped (l.before + marked_rows (shown_items (map item_of (take l.item-index l.fn.items))))
