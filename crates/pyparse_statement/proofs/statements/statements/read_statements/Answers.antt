use Rattle.std.proofs.Common.{◌+◌, ap, arith, refl, rules}
use Rattle.pyparse_reads.specs.Readings.{reads}
use Rattle.pyparse_statement.proofs.statements.StatementSteps.{no_height, run_end, run_failed, run_last, run_more, run_start}
use Rattle.pyparse_statement.proofs.Recorders.Values.{run_end as placed_end, run_last as placed_last, run_turn, simples_start}
use Rattle.pyparse_statement.proofs.statements.statements.read_statements.Goals as goal

pub more-init : goal.more-init
more-init g c = record {
  ahead = omega arith;
  is = run_start c.args.tokens.now c.args.profile (reads c.args.depth) c.args.at _ _ c.requires (search rules) refl;
  grown = simples_start (search rules);
  high = no_height (search rules);
}

pub returns-in-Err-clause-answered : goal.returns-in-Err-clause-answered
returns-in-Err-clause-answered g c = run_failed c.args.tokens.now c.args.profile (reads c.args.depth) _ _ c.more.next
    c.more.invariant.is c.in-Err.stop c.in-Err.ensures.taken

pub returns-then-not-is_op-clause-answered : goal.returns-then-not-is_op-clause-answered
returns-then-not-is_op-clause-answered g c = let t = c.in-Ok.ensures.taken in
    run_last c.args.tokens.now c.args.profile (reads c.args.depth) _ _ c.more.next c.more.invariant.is _ _ _ t.part _ t.grown
    (c.args.at + 1) _ t.next_is (omega (arith, c.more.invariant.ahead, t.part.ahead)) (rw t.next_is at c.if-not-is_op.ensures)

pub returns-then-next-tokens-clause-answered : goal.returns-then-next-tokens-clause-answered
returns-then-next-tokens-clause-answered g c = let t = c.in-Ok.ensures.taken in
    run_end c.args.tokens.now c.args.profile (reads c.args.depth) _ _ c.more.next c.more.invariant.is _ _ _ t.part _ t.grown
    (rw t.next_is at c.if-not-is_op.ensures) _ (ap (λ n. n + 1) t.next_is)
    (c.args.at + 1) (omega (arith, c.more.invariant.ahead, t.part.ahead)) (omega arith)

pub more-preserved : goal.more-preserved
more-preserved g c = let t = c.in-Ok.ensures.taken in record {
  ahead = omega (arith, c.more.invariant.ahead, t.part.ahead, t.next_is);
  is =
      run_more c.args.tokens.now c.args.profile (reads c.args.depth) _ _ c.more.next c.more.invariant.is _ _ _ t.part _ t.grown
      (rw t.next_is at c.if-not-is_op.ensures) _ (ap (λ n. n + 1) t.next_is)
      (omega (arith, t.part.ahead)) (omega (arith, c.if-not-is_op.ensures.within));
  grown = run_turn t.one c.more.invariant.grown t.fields t.node t.grown
      (rw t.next_is at c.if-not-is_op.ensures) (ap (λ n. n + 1) t.next_is);
  high = c.in-Ok.ensures.height c.more.invariant.high;
}

pub returns-then-not-is_op-clause-placed : goal.returns-then-not-is_op-clause-placed
returns-then-not-is_op-clause-placed g c = let t = c.in-Ok.ensures.taken in
    placed_last t.one c.more.invariant.grown t.fields t.node t.grown t.next_is

pub returns-then-next-tokens-clause-placed : goal.returns-then-next-tokens-clause-placed
returns-then-next-tokens-clause-placed g c = let t = c.in-Ok.ensures.taken in
    placed_end t.one c.more.invariant.grown t.fields t.node t.grown (rw t.next_is at c.if-not-is_op.ensures)
    (ap (λ n. n + 1) t.next_is)
