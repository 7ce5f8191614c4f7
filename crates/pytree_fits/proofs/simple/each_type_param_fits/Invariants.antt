use Rattle.std.proofs.Common.{◌≡◌, map, take, true}
use Rattle.std.specs.List.{list_all}
use Rattle.pytree_node.specs.TreeOf.{type_param_of}
use Rattle.pytree_fits.specs.Tests.{tests_at}
use Rattle.pytree_fits.specs.Statements.{type_param_fits}
use Rattle.pytree_fits.proofs.simple.each_type_param_fits.Given as goal

abbrev pub invariant-loop-parameter : goal.invariant-loop-parameter
invariant-loop-parameter l = list_all (type_param_fits (tests_at l.asked.extent l.asked.fields))
    (map type_param_of (take l.parameter-index l.parameters)) ≡ true
