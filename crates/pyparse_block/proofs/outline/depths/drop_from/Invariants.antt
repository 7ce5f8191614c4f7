use Rattle.std.proofs.Common.{◌≡◌, length}
use Rattle.pygrammar.specs.Depths.{under}
use Rattle.pyparse_block.specs.Outlines.{lasts_of}
use Rattle.pyparse_block.proofs.outline.depths.drop_from.Given as goal

abbrev pub invariant-loop-last : goal.invariant-loop-last
invariant-loop-last l = under l.level (lasts_of l.lasts.items) ≡ under l.level (lasts_of l.initial.lasts.items)

abbrev pub decreases-loop-last : goal.decreases-loop-last
decreases-loop-last l = length l.lasts.items
