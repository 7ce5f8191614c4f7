use Rattle.std.proofs.Common.{arith, rules, ◌∷◌}
use Rattle.pytoken.specs.Terminals.{Ident}
use Rattle.pyparse_nodes.specs.Views.{seen}
use Rattle.pyparse_pattern.proofs.Points.{points_end, points_high, points_more, points_start, points_stop}
use Rattle.pyparse_pattern.proofs.Recorders.Values.{points_begun, points_gone}
use Rattle.pyparse_pattern.proofs.dotted.dotted.Goals as goal

pub points-init : goal.points-init
points-init g c = record {
  ahead = omega (arith, c.in_ok-e.ensures.next_is);
  is = points_start c.args.tokens.now c.args.room _ c.args.at c.in_ok-e.e c.requires c.in_ok-e.ensures;
  placed = λ q x e. points_begun g.R.Recorder.after _ _ c.args.tokens.now x c.args.from _ c.args.at c.in_ok-e.e c.in_ok-e.ensures
      c.in_ok-node.ensures q e;
}

pub points-preserved : goal.points-preserved
points-preserved g c = record {
  ahead = omega (arith, c.points.invariant.ahead, c.in_ok-e-in-Some.ensures.next_is);
  is = points_more c.args.tokens.now c.args.room _ c.points.e c.in_ok-e-in-Some.e _ c.points.invariant.is c.points-test.ensures
      c.in-Some.ensures.is c.in-Some.ensures.within c.in_ok-e-in-Some.ensures;
  placed = λ q x e. points_gone g.R.Recorder.after _ _ c.args.tokens.now x c.args.from (Ident x ∷ seen c.args.tokens.now c.args.at)
      c.args.room _ c.points.e c.in_ok-e-in-Some.e c.points-test.ensures c.in-Some.ensures.is c.in_ok-e-in-Some.ensures
      c.in_ok-node-in-Some.ensures (c.points.invariant.placed q x e);
}

pub returns-in-None-clause-answered : goal.returns-in-None-clause-answered
returns-in-None-clause-answered g c =
    points_stop c.args.tokens.now c.args.room _ c.points.e c.points.invariant.is c.points-test.ensures c.in-None.ensures.is

pub returns-clause-answered : goal.returns-clause-answered
returns-clause-answered g c = points_end c.args.tokens.now c.args.room _ c.points.e c.args.at c.points.invariant.is c.points-test.ensures
    c.points.invariant.ahead

pub returns-clause-placed : goal.returns-clause-placed
returns-clause-placed g c = c.points.invariant.placed

pub returns-in_err-e-in-Some-clause-answered : goal.returns-in_err-e-in-Some-clause-answered
returns-in_err-e-in-Some-clause-answered g c =
    let f = points_high c.args.tokens.now c.args.room _ c.points.e _ c.in_err-e-in-Some.field-0.0
    c.points.invariant.is c.points-test.ensures
    c.in-Some.ensures.is c.in_err-e-in-Some.ensures in
    search (rules, f)
