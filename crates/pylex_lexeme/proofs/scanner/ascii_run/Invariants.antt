use Rattle.std.proofs.Common.{◌≡◌, ◌≤◌, ◌+◌, ◌-◌, ◌&&◌, length, drop, nat_lt}
use Rattle.std.specs.List.{prefix_len}
use Rattle.pylex_lexeme.specs.Chars.{has}
use Rattle.pylex_lexeme.proofs.scanner.ascii_run.Given as goal

abbrev pub invariant-loop-count : goal.invariant-loop-count
invariant-loop-count l = (l.count ≤ length l.bytes) × (l.count + prefix_len (λ b. nat_lt b 128 && has l.set b) (drop l.count l.bytes) ≡
    prefix_len (λ b. nat_lt b 128 && has l.set b) l.bytes)

abbrev pub decreases-loop-count : goal.decreases-loop-count
decreases-loop-count l = length l.bytes - l.count
