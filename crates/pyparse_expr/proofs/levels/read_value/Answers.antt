use Rattle.pyparse_expr.proofs.Reader.LevelSteps.{value_plain, value_yield}
use Rattle.pygrammar.specs.declared.levels.Level.TheVariants.{Stars, Value}
use Rattle.pyparse_nodes.specs.Views.{seen}
use Rattle.pyplaces.proofs.Expressions.Levels.{placed_next}
use Rattle.pyparse_expr.proofs.Recorders.Levels.{value_yielded}
use Rattle.pyparse_expr.proofs.Recorders.Made.{whole_on}
use Rattle.pyparse_expr.proofs.levels.read_value.Goals as goal

pub returns-then-is_word-clause-answered : goal.returns-then-is_word-clause-answered
returns-then-is_word-clause-answered g c = value_yield c.args.tokens.now c.args.depth c.args.at c.in_ok-enter.ensures c.yield_step.result
    c.if-is_word.ensures c.yield_step.ensures.answered

pub returns-else-is_word-clause-answered : goal.returns-else-is_word-clause-answered
returns-else-is_word-clause-answered g c = value_plain c.args.tokens.now c.args.depth c.args.at c.in_ok-enter.ensures c.read_stars.result
    c.if-is_word.ensures c.read_stars.ensures.answered

pub returns-then-is_word-clause-placed : goal.returns-then-is_word-clause-placed
returns-then-is_word-clause-placed g c = value_yielded g.R.Recorder.after _ _ c.args.tokens.now c.args.at
    c.yield_step.result c.if-is_word.ensures
    c.yield_step.ensures.placed

pub returns-else-is_word-clause-placed : goal.returns-else-is_word-clause-placed
returns-else-is_word-clause-placed g c = whole_on g.R.Recorder.after _ _ c.args.tokens.now Stars Value
    (seen c.args.tokens.now c.args.at) c.args.at
    c.read_stars.result c.read_stars.ensures.placed
    (λ _ _ _ _ p. placed_next p)
