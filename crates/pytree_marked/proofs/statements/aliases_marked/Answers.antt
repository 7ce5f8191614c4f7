use Rattle.std.proofs.Common.{arith, codes, map, refl}
use Rattle.pytree_node.specs.TreeOf.{alias_of}
use Rattle.pytree_dump_text.specs.Shows.{no_field, shown_aliases}
use Rattle.pytree_marked.specs.MarkedNodes.{marked_rows}
use Rattle.pytree_marked.proofs.Callers.Sums.{name_sum}
use Rattle.pytree_marked.proofs.CountLemmas.{counted, none_counted}
use Rattle.pytree_marked.proofs.statements.aliases_marked.Goals as goal

pub loop-name-preserved : goal.loop-name-preserved
loop-name-preserved c = counted (λ xs. marked_rows (shown_aliases (map alias_of xs))) (λ _. 1) refl (λ a _. let m =
    name_sum (codes "asname") (alias_of a).asname no_field in omega (arith, m)) _ _
    c.loop-name-test.true c._name-item.is c.loop-name.invariant c.one_more-count.ensures

pub loop-name-init : goal.loop-name-init
loop-name-init c = none_counted (λ xs. marked_rows (shown_aliases (map alias_of xs))) c.args.names.now c.args.before refl (omega arith)
