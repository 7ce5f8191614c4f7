use Rattle.std.proofs.Common.{arith, map, refl}
use Rattle.pytree_node.specs.Trees.{patterns}
use Rattle.pytree_node.specs.TreeOf.{pattern_of}
use Rattle.pytree_dump_text.specs.Shows.{shown_pattern, shown_patterns}
use Rattle.pytree_marked.specs.MarkedNodes.{marked, marked_rows}
use Rattle.pytree_marked.proofs.CountLemmas.{capped_none, counted, none_counted}
use Rattle.pytree_marked.proofs.patterns.+pattern_counts.Goals as goal

pub patterns_marked-loop-p-preserved : goal.patterns_marked-loop-p-preserved
patterns_marked-loop-p-preserved t c = counted (λ xs. marked_rows (shown_patterns (patterns (map pattern_of xs))))
    (λ x. marked (shown_pattern (pattern_of x))) refl (λ _ _. refl) _ _
    c.loop-p-test.true c.p-item.is c.loop-p.invariant c.pattern_marked-count.ensures

pub patterns_marked-loop-p-init : goal.patterns_marked-loop-p-init
patterns_marked-loop-p-init t c = none_counted (λ xs. marked_rows (shown_patterns (patterns (map pattern_of xs)))) c.args.ps.now
    c.args.before refl (omega arith)

pub boxed_pattern_marked-returns-in-None : goal.boxed_pattern_marked-returns-in-None
boxed_pattern_marked-returns-in-None t c = rw c.in-None.is (capped_none c.args.before (omega arith))
