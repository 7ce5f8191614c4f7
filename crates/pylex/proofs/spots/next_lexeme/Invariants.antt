use Rattle.std.proofs.Common.{◌≡◌, ℕ, ◌+◌, ◌^◌, ◌<◌, ◌≤◌, length}
use denote.Text.{Utf8}
use denote.Shadow.{shadow}
use Rattle.pylex.specs.Spots.{Silent}
use Rattle.pylex.proofs.spots.next_lexeme.Given as goal

abbrev pub invariant-loop-class : goal.invariant-loop-class
invariant-loop-class l = record {
  utf8 : shadow (Utf8 l.rest);
  joins : (n : ℕ) × Silent l.fn.text l.rest n × (l.at ≡ l.fn.row + n);
  room : l.at + length l.rest < 2 ^ 62;
  shorter : length l.rest ≤ length l.fn.text;
}

abbrev pub decreases-loop-class : goal.decreases-loop-class
decreases-loop-class l = length l.rest
