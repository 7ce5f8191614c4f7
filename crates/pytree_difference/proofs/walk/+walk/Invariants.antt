use Rattle.std.proofs.Common.{◌≡◌, ◌<◌, ◌+◌, ◌*◌, ℕ, Some}
use Rattle.pytree_fields.specs.LentThings.{child_thing, node_thing, held_thing, row_things}
use Rattle.pytree_fields.specs.Things.{Row}
use Rattle.pytree_difference.specs.Differences.{member}
use Rattle.pytree_difference.specs.Weights.{option_weight, weight}
use Rattle.pytree_difference.proofs.walk.+walk.Given as goal

abbrev pub decreases-same_field : goal.decreases-same_field
decreases-same_field g l = 4 * option_weight (held_thing l.version l.a) + 3

abbrev pub decreases-same_held : goal.decreases-same_held
decreases-same_held g l = 4 * option_weight (held_thing l.version l.a) + 2

abbrev pub decreases-same_child : goal.decreases-same_child
decreases-same_child g l = 4 * weight (child_thing l.version l.a) + 1

abbrev pub decreases-same_node : goal.decreases-same_node
decreases-same_node g l = 4 * weight (node_thing l.version l.a.now)

abbrev pub invariant-same_node-loop-i : goal.invariant-same_node-loop-i
invariant-same_node-loop-i g l = record {
  before : (j : ℕ) → j < l.i → member (Some (node_thing l.version l.a)) j ≡ member (Some (node_thing l.version l.b)) j;
  trail : g.T.Trail.steps l.trail ≡ g.T.Trail.steps l.initial.trail;
}

abbrev pub decreases-same_rows : goal.decreases-same_rows
decreases-same_rows g l = 4 * weight (Row (row_things l.version l.a))

abbrev pub invariant-same_rows-loop-i : goal.invariant-same_rows-loop-i
invariant-same_rows-loop-i g l = record {
  before : (j : ℕ) → j < l.i → member (Some (Row (row_things l.version l.a))) j ≡ member (Some (Row (row_things l.version l.b))) j;
  trail : g.T.Trail.steps l.trail ≡ g.T.Trail.steps l.initial.trail;
}
