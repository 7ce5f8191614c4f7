use Rattle.pylex.proofs.Levels.Tops.{top_level}
use Rattle.pylex.proofs.peeked.indentation_for.Goals as goal

pub returns-then-width-top-2 : goal.returns-then-width-top-2
returns-then-width-top-2 c = top_level c.args.width c.top_level-top.result c.args.levels.now c.requires
    c.top_level-top.ensures c.if-width-top-2.true
