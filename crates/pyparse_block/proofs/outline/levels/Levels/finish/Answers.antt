use Rattle.std.proofs.Common.{sym}
use Rattle.pyparse_block.specs.Outlines.{levels_of}
use Rattle.pyparse_block.proofs.outline.LevelLemmas.{finish_misplaced, finish_fine}
use Rattle.pyparse_block.proofs.outline.levels.Levels.finish.Goals as goal

pub returns-then-not-may_end-clause-refused : goal.returns-then-not-may_end-clause-refused
returns-then-not-may_end-clause-refused c = finish_misplaced (levels_of c.args.self.now) (sym c.if-awaits_block.ensures)
    (sym c.if-not-may_end.ensures)

pub returns-clause-ok : goal.returns-clause-ok
returns-clause-ok c = finish_fine (levels_of c.args.self.now) (sym c.if-awaits_block.ensures) (sym c.if-not-may_end.ensures)
