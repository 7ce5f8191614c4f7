use Rattle.std.proofs.Common.{◌≡◌, ◌≤◌, ℕ, length, reverse}
use Rattle.pyparse_block.specs.LastLines.{stands_following}
use Rattle.pyparse_block.proofs.last_lines.drop_from.Given as goal

abbrev pub invariant-loop-last : goal.invariant-loop-last
invariant-loop-last l = (n : ℕ) → n ≤ l.level → stands_following n (reverse l.lasts.items) ≡ stands_following n (reverse l.initial.lasts.items)

abbrev pub decreases-loop-last : goal.decreases-loop-last
decreases-loop-last l = length l.lasts.items
