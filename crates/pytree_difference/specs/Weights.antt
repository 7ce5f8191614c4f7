-- The size of a thing, by which the walk ends.
use Rattle.std.specs.Prelude.{ℕ, ◌+◌, Option, Some, None}
use Rattle.pytree_fields.specs.Things.{Thing, Things, Leaf, Row, Node, no_thing, a_thing, left_out}

abbrev mutual
  pub weight : Thing → ℕ
  weight (Leaf x) = 1
  weight (Row xs) = weights xs + 1
  weight (Node class xs) = weights xs + 1

  pub weights : Things → ℕ
  weights no_thing = 0
  weights (a_thing x xs) = weight x + weights xs
  weights (left_out xs) = weights xs

abbrev pub option_weight : Option Thing → ℕ
option_weight None = 0
option_weight (Some x) = weight x
