use Rattle.std.proofs.Common.{◌≡◌, map, take}
use Rattle.pytree_node.specs.TreeOf.{pattern_of}
use Rattle.pytree_copy.proofs.patterns.+copying.Given as goal

abbrev pub invariant-copy_patterns-loop-p : goal.invariant-copy_patterns-loop-p
invariant-copy_patterns-loop-p l = map pattern_of l.made.items ≡ map pattern_of (take l.p-index l.ps)
