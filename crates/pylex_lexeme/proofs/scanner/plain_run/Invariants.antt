use Rattle.std.proofs.Common.{◌≡◌, ◌≤◌, ◌+◌, ◌-◌, length, drop}
use Rattle.std.specs.List.{prefix_len}
use Rattle.pylex_lexeme.specs.Inner.Plain.{is_plain_char}
use Rattle.pylex_lexeme.proofs.scanner.plain_run.Given as goal

abbrev pub invariant-loop-count : goal.invariant-loop-count
invariant-loop-count l =
    (l.count ≤ length l.bytes) × (l.count + prefix_len is_plain_char (drop l.count l.bytes) ≡ prefix_len is_plain_char l.bytes)

abbrev pub decreases-loop-count : goal.decreases-loop-count
decreases-loop-count l = length l.bytes - l.count
