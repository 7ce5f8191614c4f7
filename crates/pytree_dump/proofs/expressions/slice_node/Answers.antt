use Rattle.std.proofs.Common.{sym}
use Rattle.pytree_dump_text.specs.Shows.{no_field}
use Rattle.pytree_dump_text.specs.Slots.{slot_of, with_slot}
use Rattle.pytree_node.proofs.Callers.ExprShapes.{slice_shape}
use Rattle.pytree_dump.proofs.expressions.slice_node.Goals as goal

pub returns : goal.returns
returns c =
    rw slice_shape
    (rw (
      sym (c.boxed_part-3.ensures no_field),
      sym (c.boxed_part-2.ensures (with_slot (slot_of c.boxed_part-3.result) no_field)),
      sym (c.boxed_part.ensures (with_slot (slot_of c.boxed_part-2.result) (with_slot (slot_of c.boxed_part-3.result) no_field))),
    ) c.three.ensures)
