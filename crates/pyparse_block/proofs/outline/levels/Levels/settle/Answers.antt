use Rattle.std.proofs.Common.{◌∙◌, sym, arith}
use Rattle.std.proofs.lemmas.List.{length-reverse}
use Rattle.pyparse_block.specs.Outlines.{levels_of}
use Rattle.pyparse_block.proofs.outline.LevelLemmas.{settle_stays, settle_fresh}
use Rattle.pyparse_block.proofs.outline.levels.Levels.settle.Goals as goal

pub returns-then-self-clause-refused : goal.returns-then-self-clause-refused
returns-then-self-clause-refused c =
    sym c.loop-level.invariant ∙ settle_fresh c.args.level (levels_of c.loop-level.self)
    (omega (arith, length-reverse c.loop-level.self.below.items)) c.if-self.true

pub returns-clause-ok : goal.returns-clause-ok
returns-clause-ok c =
    sym c.loop-level.invariant ∙ settle_stays c.args.level (levels_of c.loop-level.self)
    (omega (arith, length-reverse c.loop-level.self.below.items))
