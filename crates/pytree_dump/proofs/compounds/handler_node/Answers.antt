use Rattle.std.proofs.Common.{◌∙◌, ◌||◌, arith, refl, ap, codes}
use Rattle.pytree_node.specs.declared.statements.Handler as given_handler
use Rattle.pytree_node.specs.TreeOf.{option_of}
use Rattle.pytree_dump_text.specs.Blocks.{shown_block}
use Rattle.pytree_dump_text.specs.Layout.{is_flat, is_short}
use Rattle.pytree_dump_text.specs.Shows.{Fields, a_field, expr_field, no_field}
use Rattle.pytree_dump_text.specs.Slots.{slot_of, with_slot}
use Rattle.pytree_dump.proofs.BlockLemmas.{handler_shows}
use Rattle.pytree_dump.proofs.NodeLemmas.{marked_node}
use Rattle.pytree_dump.proofs.compounds.handler_node.Goals as goal

pub returns : goal.returns
returns c =
    let s = c.args.style in
    let o = given_handler.out-Handler c.args.h.now in
    let last : Fields = a_field (codes "body") (shown_block s.profile c.deref-body.result.now) no_field in
    let e = handler_shows s.profile c.args.h.now c.deref-body.result.now c.deref-body.ensures.value in
    marked_node s _ (codes "ExceptHandler(") _ (omega arith) refl refl
    (c.option_part.ensures (with_slot (slot_of c.name_part.result) last)
    ∙ ap (λ z. expr_field (codes "type") (option_of o.class) z) (c.name_part.ensures last) ∙ e)
    (c.is_short_handler.ensures o.name ∙ ap (λ z. is_flat s.indent || is_short z) e)
