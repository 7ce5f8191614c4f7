use Rattle.std.proofs.Common.{◌≡◌, ◌-◌, length}
use Rattle.pylex_listing.specs.Listing.{in_characters, listing}
use Rattle.pylex_listing.specs.Steps.{entries_of}
use Rattle.pyparse_marks.specs.Spans.{emptied}
use Rattle.pyparse_tokens.specs.Inner.Marking.{KeepsMarks}
use Rattle.pyparse_tokens.specs.Inner.Walking.{Reads}
use Rattle.pyparse_tokens.proofs.logical_lines.read_line.Given as goal

abbrev pub invariant-entries : goal.invariant-entries
invariant-entries l = record {
  extent : l.gather.pass.extent ≡ l.fn.gather.pass.extent;
  reads : Reads l.source l.fn.lister l.lister l.gather;
  marks : KeepsMarks l.source l.lister l.gather (emptied l.fn.marks) l.marks;
}

abbrev pub decreases-entries : goal.decreases-entries
decreases-entries l = length (entries_of (listing (in_characters l.source))) - l.lister.shown.given
