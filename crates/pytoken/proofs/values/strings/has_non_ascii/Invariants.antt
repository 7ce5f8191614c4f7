use Rattle.std.proofs.Common.{◌≡◌, length}
use Rattle.std.specs.Prelude.{nat_lt}
use Rattle.std.specs.List.{list_any}
use Rattle.pytoken.proofs.values.strings.has_non_ascii.Given as goal

abbrev pub invariant-loop-c : goal.invariant-loop-c
invariant-loop-c l = list_any (nat_lt 0x7F) l.left ≡ list_any (nat_lt 0x7F) l.initial.left

abbrev pub decreases-loop-c : goal.decreases-loop-c
decreases-loop-c l = length l.left
