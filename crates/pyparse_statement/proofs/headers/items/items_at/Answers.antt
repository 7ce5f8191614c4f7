use Rattle.std.proofs.Common.{arith, ap, ◌∙◌, sym, map, rules, ◌+◌}
use Rattle.pytree_node.specs.TreeOf.{item_of}
use Rattle.pygrammar.specs.LineReader.{read_item}
use Rattle.pyparse_reads.specs.Readings.{reads}
use Rattle.pyparse_nodes.specs.Views.{seen}
use Rattle.pyparse_statement.proofs.Commas.{list_failed, list_start}
use Rattle.pyparse_statement.specs.Inner.Items.{more_items}
use Rattle.pyparse_statement.proofs.headers.ItemSteps.{items_last, items_end, items_more}
use Rattle.pyparse_statement.proofs.Recorders.Headers.{items_end as placed_end, items_last as placed_last, items_start, items_turn}
use Rattle.pyparse_statement.proofs.headers.items.items_at.Goals as goal

pub more-init : goal.more-init
more-init g c = record {
  ahead = omega (arith, c.no_items-items.ensures.next);
  is = list_start c.args.tokens.now (read_item (reads c.args.depth)) (more_items c.args.in_brackets) c.args.at
      (map item_of c.no_items-items.result.items.items) c.no_items-items.result.next c.requires c.no_items-items.ensures.items
      c.no_items-items.ensures.next;
  grown = items_start c.no_items-items.ensures.items c.no_items-items.ensures.next;
}

pub returns-in_err-item-clause-answered : goal.returns-in_err-item-clause-answered
returns-in_err-item-clause-answered g c = let f = list_failed c.args.tokens.now (read_item (reads c.args.depth))
    (more_items c.args.in_brackets) _
    (map item_of c.more.items.items.items) c.more.items.next c.more.invariant.is c.in_err-item.field-0.0 c.in_err-item.ensures.answered in
    search (rules, f)

pub returns-then-not-is_op-clause-answered : goal.returns-then-not-is_op-clause-answered
returns-then-not-is_op-clause-answered g c = items_last c.args.tokens.now (reads c.args.depth)
    (more_items c.args.in_brackets) _ c.more.items
    c.more.invariant.is c.in_ok-item.item c.in_ok-item.ensures.answered c.in_ok-grown.grown c.in_ok-grown.ensures.items
    c.in_ok-grown.ensures.next
    c.args.at c.more.invariant.ahead c.if-not-is_op.ensures

pub returns-then-not-goes_on-clause-answered : goal.returns-then-not-goes_on-clause-answered
returns-then-not-goes_on-clause-answered g c =
    items_end c.args.tokens.now (reads c.args.depth) (more_items c.args.in_brackets) _ c.more.items
    c.more.invariant.is c.in_ok-item.item c.in_ok-item.ensures.answered c.in_ok-grown.grown c.in_ok-grown.ensures.items
    c.in_ok-grown.ensures.next
    c.if-not-is_op.ensures c.placed-items.result c.placed-items.ensures.items c.placed-items.ensures.next c.args.at c.more.invariant.ahead
    (ap (λ n. more_items c.args.in_brackets (seen c.args.tokens.now n)) c.placed-items.ensures.next ∙ sym c.goes_on.ensures
    ∙ c.if-not-goes_on.true)

pub more-preserved : goal.more-preserved
more-preserved g c = record {
  ahead = omega (
    arith,
    c.more.invariant.ahead,
    c.in_ok-item.ensures.answered.ahead,
    c.in_ok-grown.ensures.next,
    c.placed-items.ensures.next,
  );
  is = items_more c.args.tokens.now (reads c.args.depth) (more_items c.args.in_brackets) _ c.more.items c.more.invariant.is
      c.in_ok-item.item c.in_ok-item.ensures.answered c.in_ok-grown.grown c.in_ok-grown.ensures.items c.in_ok-grown.ensures.next
      c.if-not-is_op.ensures c.placed-items.result c.placed-items.ensures.items c.placed-items.ensures.next
      (ap (λ n. more_items c.args.in_brackets (seen c.args.tokens.now n)) c.placed-items.ensures.next ∙ sym c.goes_on.ensures
      ∙ c.if-not-goes_on.false);
  grown = items_turn c.in_ok-item.item c.more.invariant.grown c.in_ok-item.ensures.placed (c.placed-items.ensures.items
      ∙ c.in_ok-grown.ensures.items)
      (rw c.in_ok-grown.ensures.next at c.if-not-is_op.ensures) (c.placed-items.ensures.next ∙ ap (λ n. n + 1) c.in_ok-grown.ensures.next);
}

pub returns-then-not-is_op-clause-placed : goal.returns-then-not-is_op-clause-placed
returns-then-not-is_op-clause-placed g c = placed_last c.in_ok-item.item c.more.invariant.grown c.in_ok-item.ensures.placed
    c.in_ok-grown.ensures.items c.args.in_brackets c.in_ok-grown.ensures.next

pub returns-then-not-goes_on-clause-placed : goal.returns-then-not-goes_on-clause-placed
returns-then-not-goes_on-clause-placed g c = placed_end c.in_ok-item.item c.more.invariant.grown c.in_ok-item.ensures.placed
    (c.placed-items.ensures.items ∙ c.in_ok-grown.ensures.items) (seen c.args.tokens.now (c.in_ok-grown.grown.next + 1)) c.args.in_brackets
    (rw c.in_ok-grown.ensures.next at c.if-not-is_op.ensures) (sym c.if-not-goes_on.true ∙ c.goes_on.ensures) (c.placed-items.ensures.next
    ∙ ap (λ n. n + 1) c.in_ok-grown.ensures.next)
