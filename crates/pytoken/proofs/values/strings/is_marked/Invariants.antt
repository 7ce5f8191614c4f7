use Rattle.std.proofs.Common.{◌≡◌, length}
use Rattle.pytoken.specs.StringValues.{is_marked}
use Rattle.pytoken.proofs.values.strings.is_marked.Given as goal

abbrev pub invariant-loop-c : goal.invariant-loop-c
invariant-loop-c l = is_marked l.small l.capital l.left ≡ is_marked l.small l.capital l.initial.left

abbrev pub decreases-loop-c : goal.decreases-loop-c
decreases-loop-c l = length l.left
