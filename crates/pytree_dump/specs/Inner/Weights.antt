-- The size of what is shown.
use Rattle.std.specs.Prelude.{ℕ, ◌+◌}
use Rattle.pytree_dump_text.specs.Shows.{Shown, Showns, Fields, Scalar, Row, Node, no_shown, a_shown, no_field, a_field, left_out}
use Rattle.pytree_dump_text.specs.Slots.{Slot, missing, field}

abbrev mutual
  pub weight : Shown → ℕ
  weight (Scalar t) = 1
  weight (Row xs) = weights xs + 1
  weight (Node class fs) = field_weights fs + 1

  pub weights : Showns → ℕ
  weights no_shown = 0
  weights (a_shown x xs) = weight x + weights xs

  pub field_weights : Fields → ℕ
  field_weights no_field = 0
  field_weights (a_field name x fs) = weight x + field_weights fs
  field_weights (left_out fs) = field_weights fs

-- of a slot
abbrev pub slot_weight : Slot → ℕ
slot_weight missing = 0
slot_weight (field name x) = weight x
