use Rattle.std.proofs.Common.{refl, sym}
use Rattle.std.specs.Str.{chars}
use Rattle.pylex.proofs.Listers.Finding.{settles_level, stays_there}
use Rattle.pylex.proofs.peeked.settle.Goals as goal

pub returns-then-not-begins_significant-clause-comes : goal.returns-then-not-begins_significant-clause-comes
returns-then-not-begins_significant-clause-comes c = stays_there c.args.levels.now c.args.now.now (chars c.args.text.now)

pub returns-then-is_last_level-clause-comes : goal.returns-then-is_last_level-clause-comes
returns-then-is_last_level-clause-comes c = (settles_level c.args.levels.now c.args.now.now c.measure.new.self (chars c.args.text.now)
    c.requires.margin (sym c.if-not-begins_significant.ensures) (c.if-is_last_level.ensures refl) c.measure.ensures.measured).comes

pub returns-else-is_last_level-clause-comes : goal.returns-else-is_last_level-clause-comes
returns-else-is_last_level-clause-comes c = stays_there c.args.levels.now c.args.now.now (chars c.args.text.now)
