use Rattle.std.proofs.Common.{◌≡◌, map, take}
use Rattle.pytree_node.specs.TreeOf.{type_param_of}
use Rattle.pytree_copy.proofs.parts.copy_type_params.Given as goal

abbrev pub invariant-loop-parameter : goal.invariant-loop-parameter
invariant-loop-parameter l = map type_param_of l.made.items ≡ map type_param_of (take l.parameter-index l.fn.parameters)
