use Rattle.pylex.proofs.Levels.Tops.{top_level}
use Rattle.pylex.proofs.peeked.is_last_level.Goals as goal

pub returns-then-width-top : goal.returns-then-width-top
returns-then-width-top c = λ _. top_level c.args.width c.top_level-top.result c.args.levels.now c.requires c.top_level-top.ensures
    c.if-width-top.true
