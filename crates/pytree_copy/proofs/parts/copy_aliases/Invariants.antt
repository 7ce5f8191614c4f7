use Rattle.std.proofs.Common.{◌≡◌, map, take}
use Rattle.pytree_node.specs.TreeOf.{alias_of}
use Rattle.pytree_copy.proofs.parts.copy_aliases.Given as goal

abbrev pub invariant-loop-alias : goal.invariant-loop-alias
invariant-loop-alias l = map alias_of l.made.items ≡ map alias_of (take l.alias-index l.fn.names)
