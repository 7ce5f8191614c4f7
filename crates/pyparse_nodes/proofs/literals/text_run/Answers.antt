use Rattle.std.proofs.Common.{◌+◌, ◌∙◌, ap, arith}
use Rattle.pytree_node.specs.Values as values
use Rattle.pyparse_nodes.specs.Runs.{run}
use Rattle.pyparse_nodes.specs.Views.{seen}
use Rattle.pyparse_nodes.proofs.LiteralRuns.{literal_front}
use Rattle.pyparse_nodes.proofs.literals.text_run.Goals as goal

pub loop-more-preserved : goal.loop-more-preserved
loop-more-preserved c = record {
  ahead = omega (arith, c.loop-more.invariant.ahead);
  within = omega (arith, c.in-Some.ensures.within);
  is = c.loop-more.invariant.is
      ∙ ap (λ r. run (values.Str c.loop-more.points c.args.unicode) r)
      (literal_front c.args.tokens.now c.loop-more.next _ c.in-Some.ensures.is)
      ∙ c.in_ok-points.ensures.is (seen c.args.tokens.now (c.loop-more.next + 1));
}
