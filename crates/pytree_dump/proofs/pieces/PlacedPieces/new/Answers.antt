use Rattle.std.proofs.Common.{ap, arith, false, length}
use Rattle.pytree_dump_text.specs.Shows.{no_field}
use Rattle.pytree_dump.proofs.PieceLemmas.{module_pieces, statement_count}
use Rattle.pytree_dump.proofs.pieces.PlacedPieces.new.Goals as goal

pub returns-clause-text : goal.returns-clause-text
returns-clause-text g c =
    module_pieces c.args.style _ _ c.deref-body.result.now c.args.tree.now.body.items c.deref-body.ensures.value
    c.new-begin.ensures.bytes c.new-end.ensures.bytes c.in_ok-indentation.ensures.ok c.is_short_module-one_line.ensures
    c.in_ok-open.ensures.text c.in_ok-open.ensures.indentation c.as_str.ensures.value c.in_ok-push_lead.ensures
    c.in_ok-push_str.ensures.bytes (c.in_ok-show_any_field.ensures.text.text false no_field) c.in_ok-show_any_field.ensures.indentation
    c.in_ok-push_str-2.ensures.bytes c.in_ok-open-2.ensures.text c.in_ok-open-2.ensures.indentation

pub returns-clause-count : goal.returns-clause-count
returns-clause-count g c = grind (arith, statement_count, ap length c.deref-body.ensures.value)
