use Rattle.std.proofs.Common.{◌∙◌, ap}
use Rattle.pygrammar.specs.PatternOperators.{captured}
use Rattle.pyparse_pattern.proofs.LevelSteps.{star_named}
use Rattle.pyparse_pattern.proofs.Recorders.Levels.{star_placed}
use Rattle.pyparse_pattern.proofs.levels.starred.Goals as goal

pub returns-in_ok-node-in-Some-clause-answered : goal.returns-in_ok-node-in-Some-clause-answered
returns-in_ok-node-in-Some-clause-answered g c =
    star_named c.args.tokens.now c.args.at _ c.in-Some.ensures.is c.in-Some.ensures.within c.args.depth
    c.captured.result c.make_star.result c.requires (c.captured.ensures ∙ ap captured c.in_ok-name-in-Some.ensures) c.make_star.ensures

pub returns-in_ok-node-in-Some-clause-placed : goal.returns-in_ok-node-in-Some-clause-placed
returns-in_ok-node-in-Some-clause-placed g c = λ q.
    star_placed g.R.Recorder.after _ _ c.args.tokens.now c.args.from c.args.at _ c.captured.result c.make_star.result q
    c.in-Some.ensures.is (c.captured.ensures ∙ ap captured c.in_ok-name-in-Some.ensures) c.in_ok-node-in-Some.ensures c.make_star.ensures
