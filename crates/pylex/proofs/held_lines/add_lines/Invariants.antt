use Rattle.std.proofs.Common.{◌≡◌, ◌+◌, ◌-◌, ◌<◌, ◌^◌, ℕ, length, string_bytes}
use Rattle.std.specs.Str.{IsCharBoundary}
use Rattle.pysource.specs.Streams.{Buffered}
use Rattle.pysource.specs.Limits.{source_limit}
use Rattle.pysource.specs.declared.line_reader.Reach.TheVariants.{Reading}
use Rattle.pylex.specs.Held.{LinesAfter}
use Rattle.pylex.specs.Inner.Chunked.{AddsOn}
use Rattle.pylex.proofs.held_lines.add_lines.Given as goal

abbrev pub invariant-loop-literal : goal.invariant-loop-literal
invariant-loop-literal g l = record {
  adds : AddsOn (g.R.ByteIn.seen l.fn.reader) (g.R.ByteIn.seen l.reader) l.fn.lines l.lines (string_bytes l.fn.text) (string_bytes l.text);
  reading : l.lines.reach ≡ Reading → (g.R.ByteIn.seen l.reader).failures < 2 ^ 64 - 1;
  joins : (at : ℕ) (start : Buffered) → LinesAfter l.literal at l.fn.from start l.fn.lines (string_bytes l.fn.text)
      → LinesAfter l.literal at l.from start l.lines (string_bytes l.text);
  from : IsCharBoundary (string_bytes l.text) l.from;
}

abbrev pub decreases-loop-literal : goal.decreases-loop-literal
decreases-loop-literal g l = (source_limit - l.lines.count) + length l.lines.pending
