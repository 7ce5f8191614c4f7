use Rattle.std.proofs.Common.{ℕ, ◌+◌, length}
use denote.Text.{Utf8}
use denote.Shadow.{shadow}
use Rattle.std.specs.Str.{chars}
use Rattle.pylex.specs.LineState.{HasRoom, Stands, Comes, Following}
use Rattle.pylex.proofs.peeked.find.Given as goal

abbrev pub invariant-loop-peeked : goal.invariant-loop-peeked
invariant-loop-peeked l = shadow (Utf8 l.rest) × Stands l.now l.rest × Comes l.levels l.fn.start (chars l.fn.text) l.now (chars l.rest) ×
    ((n : ℕ) → HasRoom l.fn.start (length l.fn.text + n) → HasRoom l.now (length l.rest + n)) × Following l.fn.text l.rest

abbrev pub decreases-loop-peeked : goal.decreases-loop-peeked
decreases-loop-peeked l = length l.rest
