use Rattle.std.proofs.Common.{◌≡◌, take}
use Rattle.pytree_copy.proofs.leaves.copy_names.Given as goal

abbrev pub invariant-loop-name : goal.invariant-loop-name
invariant-loop-name l = l.made.items ≡ take l.name-index l.fn.names
