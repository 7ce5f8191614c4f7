use Rattle.std.proofs.Common.{◌≡◌, ◌-◌, length}
use Rattle.pylex_listing.specs.Listing.{in_characters}
use Rattle.pytoken.specs.Tokens.{lines}
use Rattle.pyparse_marks.specs.Spans.{HasKept}
use Rattle.pyparse.specs.Inner.PlacedLines.{IsPlaced}
use Rattle.pyparse.proofs.placed.parse_placed.Given as goal

abbrev pub invariant-loop-progress : goal.invariant-loop-progress
invariant-loop-progress l = record {
  source : l.lines.source ≡ l.fn.source;
  kept : HasKept l.marks;
  extent : l.lines.extent ≡ l.fn.profile.extent;
  placed : IsPlaced l.fn.profile (in_characters l.fn.source) l.lines.given l.progress;
}

abbrev pub decreases-loop-progress : goal.decreases-loop-progress
decreases-loop-progress l = length (lines (in_characters l.fn.source)) - l.lines.given
