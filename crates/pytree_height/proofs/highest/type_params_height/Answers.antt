use Rattle.std.proofs.Common.{map, refl}
use Rattle.pytree_node.specs.TreeOf.{type_param_of}
use Rattle.pytree_height.specs.Heights.{type_param_height, type_param_heights}
use Rattle.pytree_height.proofs.CapLemmas.{higher}
use Rattle.pytree_height.proofs.highest.type_params_height.Goals as goal

pub loop-parameter-preserved : goal.loop-parameter-preserved
loop-parameter-preserved c = higher (λ all. type_param_heights (map type_param_of all))
    (λ p. type_param_height (type_param_of p)) refl (λ _ _. refl) _
    c.loop-parameter-test.true c.parameter-item.is c.loop-parameter.invariant c.type_param_height.ensures c.max-most.ensures
