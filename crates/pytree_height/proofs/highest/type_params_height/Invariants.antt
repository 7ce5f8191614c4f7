use Rattle.std.proofs.Common.{◌≡◌, map, take}
use Rattle.pytree_node.specs.TreeOf.{type_param_of}
use Rattle.pytree_height.specs.Heights.{capped, type_param_heights}
use Rattle.pytree_height.proofs.highest.type_params_height.Given as goal

abbrev pub invariant-loop-parameter : goal.invariant-loop-parameter
invariant-loop-parameter l = l.most ≡ capped (type_param_heights (map type_param_of (take l.parameter-index l.fn.parameters)))
