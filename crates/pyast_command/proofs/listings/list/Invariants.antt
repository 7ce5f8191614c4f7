use Rattle.std.proofs.Common.{◌≡◌, ◌+◌, ◌-◌, ◌^◌, ◌<◌, string_bytes}
use Rattle.pysource.specs.Taking.{fails}
use Rattle.pylex_listing.specs.Steps.{most_entries}
use Rattle.pyast_command.proofs.ListLemmas.{Came}
use Rattle.pyast_command.proofs.listings.list.Given as goal

abbrev pub invariant-loop-left : goal.invariant-loop-left
invariant-loop-left g l = record {
  came : Came (g.R.ByteIn.seen l.fn.reader) (g.R.ByteIn.seen l.reader) l.fn.lister l.lister l.exact l.fn.count l.left
      (g.W.ByteOut.sent l.fn.writer).taken (g.W.ByteOut.sent l.writer).taken (string_bytes l.output);
  room : (g.R.ByteIn.seen l.reader).failures < 2 ^ 64 - 1 + fails l.lister.lines.reach;
  counted : (g.W.ByteOut.sent l.writer).failures ≡ (g.W.ByteOut.sent l.fn.writer).failures;
}

abbrev pub decreases-loop-left : goal.decreases-loop-left
decreases-loop-left g l = most_entries - l.lister.shown.given
