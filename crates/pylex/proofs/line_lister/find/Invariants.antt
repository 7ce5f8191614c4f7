use Rattle.std.proofs.Common.{◌≡◌, None, ◌+◌, ◌-◌, length, string_bytes}
use Rattle.std.specs.Prelude.{◌⊎◌}
use Rattle.pysource.specs.Limits.{source_limit}
use Rattle.pylex.specs.Held.{Ahead, AheadBut}
use Rattle.pylex.specs.Inner.LineSteps.{IsWaiting, Searches, streamed}
use Rattle.pylex.specs.Streamed.{AwaitsLine}
use Rattle.pylex.proofs.line_lister.find.Given as goal

abbrev pub invariant-loop-chunk : goal.invariant-loop-chunk
invariant-loop-chunk g l = record {
  searches : Searches (g.R.ByteIn.seen l.fn.reader) (g.R.ByteIn.seen l.reader) l.fn.machine l.machine l.fn.chunk l.chunk;
  ahead : Ahead l.fn.chunk.lines l.chunk.lines ⊎ (AheadBut l.fn.chunk.lines l.chunk.lines × IsWaiting l.machine l.chunk);
  awaits : ((l.chunk ≡ l.fn.chunk) × (l.machine ≡ l.fn.machine)) ⊎ AwaitsLine (streamed l.fn.machine l.fn.chunk None);
}

abbrev pub decreases-loop-chunk : goal.decreases-loop-chunk
decreases-loop-chunk g l = source_limit - (l.chunk.base + length (string_bytes l.chunk.text))
