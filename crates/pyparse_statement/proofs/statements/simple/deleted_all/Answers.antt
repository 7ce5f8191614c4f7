use Rattle.std.proofs.Common.{◌+◌, ◌∙◌, ap, arith, rules, sym}
use Rattle.pygrammar.specs.declared.levels.Level.TheVariants.{Expression}
use Rattle.pygrammar.specs.Entries.{Of}
use Rattle.pygrammar.specs.LineReader.{deleted_one}
use Rattle.pygrammar.specs.Precedence.{starts}
use Rattle.pyparse_reads.specs.Readings.{reads}
use Rattle.pyparse_nodes.specs.Views.{seen}
use Rattle.pyparse_statement.proofs.Commas.{list_end, list_failed, list_last, list_more, list_start}
use Rattle.pyparse_statement.proofs.Recorders.Parts.{deleted_end, deleted_last, deleted_start, deleted_turn}
use Rattle.pyparse_statement.proofs.statements.simple.deleted_all.Goals as goal

pub more-init : goal.more-init
more-init g c = record {
  ahead = omega (arith, c.no_items-targets.ensures.next);
  is = list_start c.args.tokens.now (deleted_one (reads c.args.depth)) (starts (Of Expression)) c.args.at _ _ c.requires
      c.no_items-targets.ensures.items c.no_items-targets.ensures.next;
  grown = deleted_start c.no_items-targets.ensures.items c.no_items-targets.ensures.next;
}

pub returns-in_err-one-clause-answered : goal.returns-in_err-one-clause-answered
returns-in_err-one-clause-answered g c = let f = list_failed c.args.tokens.now (deleted_one (reads c.args.depth))
    (starts (Of Expression)) _ _ c.more.targets.next
    c.more.invariant.is c.in_err-one.field-0.0 c.in_err-one.ensures.answered in
    search (rules, f)

pub returns-then-not-is_op-clause-answered : goal.returns-then-not-is_op-clause-answered
returns-then-not-is_op-clause-answered g c = list_last c.args.tokens.now (deleted_one (reads c.args.depth)) (starts (Of Expression)) _ _
    c.more.targets.next c.more.invariant.is _ _
    _ c.in_ok-one.ensures.answered _ c.in_ok-grown.ensures.items c.args.at _ c.in_ok-grown.ensures.next
    (omega (arith, c.more.invariant.ahead, c.in_ok-one.ensures.answered.ahead))
    (rw c.in_ok-grown.ensures.next at c.if-not-is_op.ensures)

pub returns-then-not-starts_expression-clause-answered : goal.returns-then-not-starts_expression-clause-answered
returns-then-not-starts_expression-clause-answered g c = list_end c.args.tokens.now (deleted_one (reads c.args.depth))
    (starts (Of Expression)) _ _ c.more.targets.next c.more.invariant.is _ _ _
    c.in_ok-one.ensures.answered _ (c.placed-targets.ensures.items ∙ c.in_ok-grown.ensures.items)
    (rw c.in_ok-grown.ensures.next at c.if-not-is_op.ensures) _ (c.placed-targets.ensures.next ∙ ap (λ n. n + 1) c.in_ok-grown.ensures.next)
    c.args.at (omega (arith, c.more.invariant.ahead, c.in_ok-one.ensures.answered.ahead))
    (ap (λ n. (starts (Of Expression)) (seen c.args.tokens.now n)) c.placed-targets.ensures.next
    ∙ sym c.if-not-starts_expression.ensures.is)

pub more-preserved : goal.more-preserved
more-preserved g c = record {
  ahead = omega (
    arith,
    c.more.invariant.ahead,
    c.in_ok-one.ensures.answered.ahead,
    c.in_ok-grown.ensures.next,
    c.placed-targets.ensures.next,
  );
  is =
      list_more c.args.tokens.now (deleted_one (reads c.args.depth)) (starts (Of Expression)) _ _ c.more.targets.next c.more.invariant.is _
      _ _ c.in_ok-one.ensures.answered _ (c.placed-targets.ensures.items ∙ c.in_ok-grown.ensures.items)
      (rw c.in_ok-grown.ensures.next at c.if-not-is_op.ensures) _ (c.placed-targets.ensures.next
      ∙ ap (λ n. n + 1) c.in_ok-grown.ensures.next) (omega (arith, c.in_ok-one.ensures.answered.ahead))
      (ap (λ n. (starts (Of Expression)) (seen c.args.tokens.now n)) c.placed-targets.ensures.next
      ∙ sym c.if-not-starts_expression.ensures.is);
  grown = deleted_turn c.in_ok-one.one c.more.invariant.grown c.in_ok-one.ensures.placed
      (c.placed-targets.ensures.items ∙ c.in_ok-grown.ensures.items)
      (rw c.in_ok-grown.ensures.next at c.if-not-is_op.ensures) (c.placed-targets.ensures.next
      ∙ ap (λ n. n + 1) c.in_ok-grown.ensures.next);
}

pub returns-then-not-is_op-clause-placed : goal.returns-then-not-is_op-clause-placed
returns-then-not-is_op-clause-placed g c = deleted_last c.in_ok-one.one c.more.invariant.grown c.in_ok-one.ensures.placed
    c.in_ok-grown.ensures.items c.in_ok-grown.ensures.next

pub returns-then-not-starts_expression-clause-placed : goal.returns-then-not-starts_expression-clause-placed
returns-then-not-starts_expression-clause-placed g c = deleted_end c.in_ok-one.one c.more.invariant.grown c.in_ok-one.ensures.placed
    (c.placed-targets.ensures.items ∙ c.in_ok-grown.ensures.items)
    (rw c.in_ok-grown.ensures.next at c.if-not-is_op.ensures) (c.placed-targets.ensures.next ∙ ap (λ n. n + 1) c.in_ok-grown.ensures.next)
