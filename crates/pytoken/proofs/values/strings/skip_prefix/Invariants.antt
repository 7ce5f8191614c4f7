use Rattle.std.proofs.Common.{◌≡◌, length}
use Rattle.pytoken.proofs.values.LiteralLemmas.{after_prefix}
use Rattle.pytoken.proofs.values.strings.skip_prefix.Given as goal

abbrev pub invariant-loop-c : goal.invariant-loop-c
invariant-loop-c l = after_prefix l.literal ≡ after_prefix l.initial.literal

abbrev pub decreases-loop-c : goal.decreases-loop-c
decreases-loop-c l = length l.literal
