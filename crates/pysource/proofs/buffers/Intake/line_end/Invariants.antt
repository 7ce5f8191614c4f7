use Rattle.std.proofs.Common.{◌≡◌, ◌+◌, ◌-◌, ◌≤◌, length}
use Rattle.std.specs.Prelude.{◌⊎◌, max}
use Rattle.pysource.specs.Limits.{source_limit}
use Rattle.pysource.specs.Taking.{Grows, NoLfFrom}
use Rattle.pysource.proofs.TakenBytes.TakingLemmas.{left}
use Rattle.pysource.proofs.buffers.Intake.line_end.Given as goal

abbrev pub invariant-loop-at : goal.invariant-loop-at
invariant-loop-at g l = record {
  within : l.self.count ≤ source_limit;
  grows : Grows (g.R.ByteIn.seen l.fn.reader) (g.R.ByteIn.seen l.reader) l.fn.self l.self;
  low : l.start ≤ l.searched;
  high : l.searched ≤ length l.self.buffer;
  clean : NoLfFrom l.start l.searched l.self.buffer;
  ahead : length l.self.buffer ≤ max (l.searched + 8_192) (length l.fn.self.buffer);
  kept : (l.self.reach ≡ l.fn.self.reach) ⊎ (l.searched ≡ length l.self.buffer);
}

abbrev pub decreases-loop-at : goal.decreases-loop-at
decreases-loop-at g l = source_limit - l.self.count + left l.self.reach
