use Rattle.std.proofs.Common.{◌≡◌, ◌-◌, ◌≤◌, vec_len}
use Rattle.std.specs.Io.KnownBytes.{Consumes}
use Rattle.pysource.specs.Bytes.{IsSteady}
use Rattle.pysource.specs.Limits.{source_limit}
use Rattle.pysource.proofs.bytes.read_all.Given as goal

abbrev pub invariant-loop-all : goal.invariant-loop-all
invariant-loop-all g l = record {
  within : vec_len l.all ≤ source_limit;
  gave : Consumes (g.R.ByteIn.seen l.fn.reader).to_come (g.R.ByteIn.seen l.reader).to_come l.all.items;
  counted : (g.R.ByteIn.seen l.reader).failures ≡ (g.R.ByteIn.seen l.fn.reader).failures;
  steady : IsSteady (g.R.ByteIn.seen l.fn.reader) (g.R.ByteIn.seen l.reader);
}

abbrev pub decreases-loop-all : goal.decreases-loop-all
decreases-loop-all g l = source_limit - vec_len l.all
