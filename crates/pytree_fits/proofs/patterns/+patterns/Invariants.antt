use Rattle.std.proofs.Common.{◌≡◌, map, take, true}
use Rattle.pytree_node.specs.TreeOf.{pattern_of}
use Rattle.pytree_node.specs.Trees.{patterns}
use Rattle.pytree_fits.specs.Tests.{tests_at}
use Rattle.pytree_fits.specs.PatternSlots.{each_pattern_fits}
use Rattle.pytree_fits.proofs.patterns.+patterns.Given as goal

abbrev pub invariant-patterns_fit-loop-p : goal.invariant-patterns_fit-loop-p
invariant-patterns_fit-loop-p l = each_pattern_fits (tests_at l.asked.extent l.asked.fields) l.level
    (patterns (map pattern_of (take l.p-index l.ps))) ≡ true
