-- What is asked of a node that the walk is given: that it holds as much as its class has fields.
use Rattle.std.specs.Prelude.{◌≡◌, ◌≤◌}
use Rattle.pytree_fields.specs.Classes.{field_count}
use Rattle.pytree_fields.specs.declared.nodes.Node.{Node}

pub record Lent (n : Node) : Type 0 where
  pub len : n.len ≡ field_count n.class
  pub room : n.len ≤ 7
