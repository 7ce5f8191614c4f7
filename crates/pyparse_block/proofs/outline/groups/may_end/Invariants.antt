use Rattle.std.proofs.Common.{◌≡◌, length, reverse}
use Rattle.pyparse_block.specs.Inner.Steps.{may_end}
use Rattle.pyparse_block.proofs.outline.groups.may_end.Given as goal

abbrev pub invariant-loop-awaited : goal.invariant-loop-awaited
invariant-loop-awaited l = may_end l.group (reverse l.below) ≡ may_end l.fn.group (reverse l.fn.below)

abbrev pub decreases-loop-awaited : goal.decreases-loop-awaited
decreases-loop-awaited l = length l.below
