use Rattle.std.proofs.Common.{◌≡◌, map, drop, false}
use Rattle.pytree_node.specs.TreeOf.{tree_of}
use Rattle.pytree_node.specs.Trees.{exprs}
use Rattle.pytree_fits.specs.Slots.{are_apart}
use Rattle.pytree_fits.proofs.strings.are_apart.Given as goal

abbrev pub invariant-loop-value : goal.invariant-loop-value
invariant-loop-value l = are_apart false (exprs (map tree_of l.values)) ≡ are_apart l.after_text
    (exprs (map tree_of (drop l.value-index l.values)))
