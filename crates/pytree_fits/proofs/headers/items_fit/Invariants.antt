use Rattle.std.proofs.Common.{◌≡◌, map, take, true}
use Rattle.std.specs.List.{list_all}
use Rattle.pytree_node.specs.TreeOf.{item_of}
use Rattle.pytree_fits.specs.Tests.{tests_at}
use Rattle.pytree_fits.specs.Statements.{item_fits}
use Rattle.pytree_fits.proofs.headers.items_fit.Given as goal

abbrev pub invariant-loop-item : goal.invariant-loop-item
invariant-loop-item l = list_all (item_fits (tests_at l.asked.extent l.asked.fields)) (map item_of (take l.item-index l.items)) ≡ true
