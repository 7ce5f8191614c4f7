use Rattle.std.proofs.Common.{◌≡◌, map, take}
use Rattle.pytree_node.specs.Trees.{patterns}
use Rattle.pytree_node.specs.TreeOf.{pattern_of}
use Rattle.pytree_height.specs.Heights.{capped, pattern_heights}
use Rattle.pytree_height.proofs.patterns.+pattern_height.Given as goal

abbrev pub invariant-patterns_height-loop-p : goal.invariant-patterns_height-loop-p
invariant-patterns_height-loop-p l = l.most ≡ capped (pattern_heights (patterns (map pattern_of (take l.p-index l.ps))))
