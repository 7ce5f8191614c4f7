use Rattle.std.proofs.Common.{◌≡◌, ◌-◌, ◌≤◌, length, take}
use Rattle.std.specs.Io.KnownBytes.{Appends}
use Rattle.pysource.proofs.bytes.write_all.Given as goal

abbrev pub invariant-loop-at : goal.invariant-loop-at
invariant-loop-at g l = record {
  within : l.at ≤ length l.bytes;
  wrote : Appends (g.W.ByteOut.sent l.fn.writer).taken (g.W.ByteOut.sent l.writer).taken (take l.at l.bytes);
  counted : (g.W.ByteOut.sent l.writer).failures ≡ (g.W.ByteOut.sent l.fn.writer).failures;
}

abbrev pub decreases-loop-at : goal.decreases-loop-at
decreases-loop-at g l = length l.bytes - l.at
