use Rattle.std.proofs.Common.{arith, map, refl}
use Rattle.pytree_node.specs.TreeOf.{type_param_of}
use Rattle.pytree_dump_text.specs.Shows.{shown_type_param, shown_type_params}
use Rattle.pytree_marked.specs.MarkedNodes.{marked, marked_rows}
use Rattle.pytree_marked.proofs.CountLemmas.{counted, none_counted}
use Rattle.pytree_marked.proofs.statements.type_params_marked.Goals as goal

pub loop-p-preserved : goal.loop-p-preserved
loop-p-preserved c = counted (λ xs. marked_rows (shown_type_params (map type_param_of xs)))
    (λ p. marked (shown_type_param (type_param_of p))) refl (λ _ _. refl) _ _
    c.loop-p-test.true c.p-item.is c.loop-p.invariant c.type_param_marked-count.ensures

pub loop-p-init : goal.loop-p-init
loop-p-init c = none_counted (λ xs. marked_rows (shown_type_params (map type_param_of xs))) c.args.all.now c.args.before refl (omega arith)
