use Rattle.std.proofs.Common.{◌≡◌, length}
use Rattle.pyparse_block.specs.Inner.Steps.{settle}
use Rattle.pyparse_block.specs.Outlines.{levels_of}
use Rattle.pyparse_block.proofs.outline.levels.Levels.settle.Given as goal

abbrev pub invariant-loop-level : goal.invariant-loop-level
invariant-loop-level l = settle l.level (levels_of l.self) ≡ settle l.level (levels_of l.initial.self)

abbrev pub decreases-loop-level : goal.decreases-loop-level
decreases-loop-level l = length l.self.below.items
