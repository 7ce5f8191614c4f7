use Rattle.std.proofs.Common.{map, refl}
use Rattle.pytree_node.specs.Trees.{patterns}
use Rattle.pytree_node.specs.TreeOf.{pattern_of}
use Rattle.pytree_height.specs.Heights.{pattern_height, pattern_heights}
use Rattle.pytree_height.proofs.CapLemmas.{higher}
use Rattle.pytree_height.proofs.patterns.+pattern_height.Goals as goal

pub patterns_height-loop-p-preserved : goal.patterns_height-loop-p-preserved
patterns_height-loop-p-preserved t c = higher (λ ps. pattern_heights (patterns (map pattern_of ps)))
    (λ p. pattern_height (pattern_of p)) refl (λ _ _. refl) _
    c.loop-p-test.true c.p-item.is c.loop-p.invariant c.pattern_height.ensures c.max-most.ensures
