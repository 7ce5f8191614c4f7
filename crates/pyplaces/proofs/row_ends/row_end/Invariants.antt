use Rattle.std.proofs.Common.{◌≡◌, ◌+◌, ◌-◌, ◌≤◌, length, drop, map}
use Rattle.pytoken.specs.TerminalOf.{terminal}
use Rattle.pyplaces.specs.RowEnds.{row_length}
use Rattle.pyplaces.proofs.row_ends.row_end.Given as goal

-- within no more f-strings than there were terminals
abbrev pub invariant-row : goal.invariant-row
invariant-row l = record {
  ahead : l.at ≤ l.next;
  few : l.depth + l.at ≤ l.next + 1;
  is : l.at + row_length 1 (drop l.at (map terminal l.tokens)) ≡ l.next + row_length l.depth (drop l.next (map terminal l.tokens));
}

abbrev pub decreases-row : goal.decreases-row
decreases-row l = length l.tokens - l.next
