use Rattle.std.proofs.Common.{◌≡◌, arith, refl, sym, true, codes}
use Rattle.pytree_node.specs.declared.statements.Try as given_try
use Rattle.pytree_node.specs.TreeOf.{try_of}
use Rattle.pytree_node.proofs.Callers.StmtShapes.{try_shape}
use Rattle.pytree_dump_text.specs.Blocks.{shown_block, shown_caught}
use Rattle.pytree_dump_text.specs.Shows.{Fields, a_field, no_field}
use Rattle.pytree_marked.proofs.Callers.Shortness.{four_or_more}
use Rattle.pytree_dump.specs.Inner.Definitions.{try_fields}
use Rattle.pytree_dump.proofs.BlockLemmas.{handlers_row, stmts_row}
use Rattle.pytree_dump.proofs.NodeLemmas.{long_node}
use Rattle.pytree_dump.proofs.compounds.try_node.Goals as goal

pub returns : goal.returns
returns c =
    let p = c.args.style.profile in
    let o = given_try.out-Try c.args.parts.now in
    let fs : Fields = try_fields p (try_of c.args.parts.now) in
    let e : fs ≡ a_field (codes "body") (shown_block p c.deref.result.now) (a_field (codes "handlers") (shown_caught p c.deref-2.result.now)
    (a_field (codes "orelse") (shown_block p c.deref-3.result.now)
    (a_field (codes "finalbody") (shown_block p c.deref-4.result.now) no_field))) =
    rw (
      try_shape,
      stmts_row p o.body.items,
      handlers_row p o.handlers.items,
      stmts_row p o.orelse.items,
      stmts_row p o.finalbody.items,
      sym c.deref.ensures.value,
      sym c.deref-2.ensures.value,
      sym c.deref-3.ensures.value,
      sym c.deref-4.ensures.value,
    ) refl in
    long_node true c.args.style _ c.args.class.now fs (omega arith) refl refl (sym e) c.is_flat.ensures (four_or_more fs 0 refl)
