use Rattle.std.proofs.Common.{◌+◌, ◌∙◌, arith, rules}
use Rattle.pytree_node.specs.TreeOf.{stmt_of}
use Rattle.pyparse_reads.specs.Readings.{reads}
use Rattle.pyparse_statement.proofs.Callers.Parts.{answered_as}
use Rattle.pyparse_statement.proofs.statements.ValueSteps.{targets_failed, targets_last, targets_more, targets_start, targets_wrong}
use Rattle.pyparse_statement.proofs.Recorders.Values.{assignment_placed, targets_start as placed_start, targets_turn}
use Rattle.pyparse_statement.proofs.statements.values.assignment.Goals as goal

pub more-init : goal.more-init
more-init g c = record {
  ahead = omega (arith, c.no_items-targets.ensures.next);
  is = targets_start c.args.tokens.now (reads c.args.depth) c.args.at _ _ c.requires c.no_items-targets.ensures.items
      c.no_items-targets.ensures.next;
  grown = placed_start c.no_items-targets.ensures.items c.no_items-targets.ensures.next;
}

pub returns-in_err-value-clause-answered : goal.returns-in_err-value-clause-answered
returns-in_err-value-clause-answered g c = let f = targets_failed c.args.tokens.now (reads c.args.depth) _ _ c.more.targets.next
    c.more.invariant.is c.in_err-value.field-0.0
    c.in_err-value.ensures.answered in
    search (rules, f)

pub returns-then-not-is_op-clause-answered : goal.returns-then-not-is_op-clause-answered
returns-then-not-is_op-clause-answered g c = answered_as c.args.tokens.now (c.args.at + 1) c.in_ok-value.value.next _ _
    (λ r. stmt_of r.statement) (λ r. r.next) c.end_value.result
    (targets_last c.args.tokens.now (reads c.args.depth) _ _ c.more.targets.next c.more.invariant.is _ _
    c.in_ok-value.ensures.answered.is c.if-not-is_op.ensures)
    (omega (arith, c.more.invariant.ahead, c.in_ok-value.ensures.answered.ahead)) c.end_value.ensures.answered

pub returns-in_err-target-clause-answered : goal.returns-in_err-target-clause-answered
returns-in_err-target-clause-answered g c = let f = targets_wrong c.args.tokens.now (reads c.args.depth) _ _ c.more.targets.next
    c.more.invariant.is _ _ c.in_ok-value.ensures.answered.is
    c.if-not-is_op.ensures c.in_err-target.ensures.is in
    search (rules, f, c.in_err-target.ensures.why)

pub more-preserved : goal.more-preserved
more-preserved g c = record {
  ahead = omega (arith, c.more.invariant.ahead, c.in_ok-value.ensures.answered.ahead, c.placed-targets.ensures.next);
  is =
      targets_more c.args.tokens.now (reads c.args.depth) _ _ c.more.targets.next c.more.invariant.is _ _
      c.in_ok-value.ensures.answered.is c.if-not-is_op.ensures
      _ _ _ c.in_ok-target.ensures.is (c.placed-targets.ensures.items ∙ c.in_ok-grown.ensures.items) c.placed-targets.ensures.next
      (omega (arith, c.in_ok-value.ensures.answered.ahead));
  grown = targets_turn c.in_ok-value.value c.in_ok-target.target c.more.invariant.grown c.in_ok-value.ensures.placed.1
      c.in_ok-value.ensures.placed.2
      c.if-not-is_op.ensures c.in_ok-target.ensures (c.placed-targets.ensures.items ∙ c.in_ok-grown.ensures.items)
      c.placed-targets.ensures.next;
}

pub returns-then-not-is_op-clause-placed : goal.returns-then-not-is_op-clause-placed
returns-then-not-is_op-clause-placed g c = let h = c.in_ok-value.ensures.placed in
    assignment_placed _ c.in_ok-value.value c.end_value.result c.more.invariant.grown h.1 h.2 c.end_value.ensures.placed
