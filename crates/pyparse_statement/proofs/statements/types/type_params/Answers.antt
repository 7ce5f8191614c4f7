use Rattle.std.proofs.Common.{◌+◌, ◌∙◌, ap, arith, rules, sym}
use Rattle.pygrammar.specs.LineReader.{read_type_param, starts_type_param}
use Rattle.pyparse_reads.specs.Readings.{reads}
use Rattle.pyparse_nodes.specs.Views.{seen}
use Rattle.pyparse_statement.proofs.Commas.{list_end, list_failed, list_last, list_more, list_start}
use Rattle.pyparse_statement.proofs.Recorders.Types.{params_end, params_last, params_start, params_turn}
use Rattle.pyparse_statement.proofs.statements.types.type_params.Goals as goal

pub more-init : goal.more-init
more-init g c = record {
  ahead = omega (arith, c.no_params-params.ensures.next);
  is = list_start c.args.tokens.now (read_type_param (reads c.args.depth)) starts_type_param c.args.at _ _ c.requires
      c.no_params-params.ensures.params c.no_params-params.ensures.next;
  grown = params_start c.no_params-params.ensures.params c.no_params-params.ensures.next;
}

pub returns-in_err-one-clause-answered : goal.returns-in_err-one-clause-answered
returns-in_err-one-clause-answered g c = let f = list_failed c.args.tokens.now (read_type_param (reads c.args.depth))
    starts_type_param _ _ c.more.params.next
    c.more.invariant.is c.in_err-one.field-0.0 c.in_err-one.ensures.answered in
    search (rules, f)

pub returns-then-not-is_op-clause-answered : goal.returns-then-not-is_op-clause-answered
returns-then-not-is_op-clause-answered g c = list_last c.args.tokens.now (read_type_param (reads c.args.depth)) starts_type_param _ _
    c.more.params.next c.more.invariant.is _ _ _
    c.in_ok-one.ensures.answered _ c.in_ok-grown.ensures.params c.args.at _ c.in_ok-grown.ensures.next
    (omega (arith, c.more.invariant.ahead, c.in_ok-one.ensures.answered.ahead))
    (rw c.in_ok-grown.ensures.next at c.if-not-is_op.ensures)

pub returns-then-not-starts_type_param-clause-answered : goal.returns-then-not-starts_type_param-clause-answered
returns-then-not-starts_type_param-clause-answered g c = list_end c.args.tokens.now (read_type_param (reads c.args.depth)) starts_type_param
    _ _ c.more.params.next c.more.invariant.is _ _ _
    c.in_ok-one.ensures.answered _ (c.placed-params.ensures.params ∙ c.in_ok-grown.ensures.params)
    (rw c.in_ok-grown.ensures.next at c.if-not-is_op.ensures) _ (c.placed-params.ensures.next ∙ ap (λ n. n + 1) c.in_ok-grown.ensures.next)
    c.args.at (omega (arith, c.more.invariant.ahead, c.in_ok-one.ensures.answered.ahead))
    (ap (λ n. starts_type_param (seen c.args.tokens.now n)) c.placed-params.ensures.next ∙ sym c.if-not-starts_type_param.ensures)

pub more-preserved : goal.more-preserved
more-preserved g c = record {
  ahead = omega (
    arith,
    c.more.invariant.ahead,
    c.in_ok-one.ensures.answered.ahead,
    c.in_ok-grown.ensures.next,
    c.placed-params.ensures.next,
  );
  is =
      list_more c.args.tokens.now (read_type_param (reads c.args.depth)) starts_type_param _ _ c.more.params.next c.more.invariant.is _ _ _
      c.in_ok-one.ensures.answered _ (c.placed-params.ensures.params ∙ c.in_ok-grown.ensures.params)
      (rw c.in_ok-grown.ensures.next at c.if-not-is_op.ensures) _ (c.placed-params.ensures.next
      ∙ ap (λ n. n + 1) c.in_ok-grown.ensures.next) (omega (arith, c.in_ok-one.ensures.answered.ahead))
      (ap (λ n. starts_type_param (seen c.args.tokens.now n)) c.placed-params.ensures.next ∙ sym c.if-not-starts_type_param.ensures);
  grown = params_turn c.in_ok-one.one c.more.invariant.grown c.in_ok-one.ensures.placed c.in_ok-node.ensures
      (c.placed-params.ensures.params ∙ c.in_ok-grown.ensures.params)
      (rw c.in_ok-grown.ensures.next at c.if-not-is_op.ensures) (c.placed-params.ensures.next ∙ ap (λ n. n + 1) c.in_ok-grown.ensures.next);
}

pub returns-then-not-is_op-clause-placed : goal.returns-then-not-is_op-clause-placed
returns-then-not-is_op-clause-placed g c = params_last c.in_ok-one.one c.more.invariant.grown c.in_ok-one.ensures.placed
    c.in_ok-node.ensures c.in_ok-grown.ensures.params c.in_ok-grown.ensures.next

pub returns-then-not-starts_type_param-clause-placed : goal.returns-then-not-starts_type_param-clause-placed
returns-then-not-starts_type_param-clause-placed g c = params_end c.in_ok-one.one c.more.invariant.grown
    c.in_ok-one.ensures.placed c.in_ok-node.ensures
    (c.placed-params.ensures.params ∙ c.in_ok-grown.ensures.params)
    (rw c.in_ok-grown.ensures.next at c.if-not-is_op.ensures) (c.placed-params.ensures.next ∙ ap (λ n. n + 1) c.in_ok-grown.ensures.next)
