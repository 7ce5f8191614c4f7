use Rattle.std.proofs.Common.{◌≡◌, map, drop}
use Rattle.pytree_node.specs.TreeOf.{tree_of}
use Rattle.pytree_node.specs.Trees.{exprs}
use Rattle.pytree_fits.specs.Slots.{have_kind}
use Rattle.pytree_fits.proofs.strings.+kinds.Given as goal

abbrev pub invariant-have_kind-loop-i : goal.invariant-have_kind-loop-i
invariant-have_kind-loop-i l =
    have_kind l.unicode l.in_spec (exprs (map tree_of l.values)) ≡ have_kind l.unicode l.in_spec (exprs (map tree_of (drop l.i l.values)))
