use Rattle.std.proofs.Common.{◌≡◌, length, reverse}
use Rattle.pyparse_block.specs.LastLines.{stands_following}
use Rattle.pyparse_block.proofs.last_lines.LastLines.inside.Given as goal

abbrev pub invariant-loop-last : goal.invariant-loop-last
invariant-loop-last l = stands_following l.level (reverse l.lasts) ≡ stands_following l.level (reverse l.self.lasts.items)

abbrev pub decreases-loop-last : goal.decreases-loop-last
decreases-loop-last l = length l.lasts
