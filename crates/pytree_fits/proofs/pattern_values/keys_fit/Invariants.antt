use Rattle.std.proofs.Common.{◌≡◌, map, take, true}
use Rattle.std.specs.List.{list_all}
use Rattle.pytree_node.specs.TreeOf.{tree_of}
use Rattle.pytree_fits.specs.Tests.{tests_at}
use Rattle.pytree_fits.specs.PatternSlots.{key_fits}
use Rattle.pytree_fits.proofs.pattern_values.keys_fit.Given as goal

abbrev pub invariant-loop-key : goal.invariant-loop-key
invariant-loop-key l = list_all (key_fits (tests_at l.asked.extent l.asked.fields)) (map tree_of (take l.key-index l.keys)) ≡ true
