use Rattle.std.proofs.Common.{◌≡◌, ◌-◌, length}
use Rattle.pylex_listing.specs.Listing.{in_characters}
use Rattle.pytoken.specs.Tokens.{lines}
use Rattle.pyparse.specs.Inner.Progressing.{IsProgress}
use Rattle.pyparse.proofs.modules.parse.Given as goal

abbrev pub invariant-loop-progress : goal.invariant-loop-progress
invariant-loop-progress l = record {
  source : l.lines.source ≡ l.fn.source;
  extent : l.lines.extent ≡ l.fn.profile.extent;
  known : IsProgress l.fn.profile (in_characters l.fn.source) l.lines.given l.progress;
}

abbrev pub decreases-loop-progress : goal.decreases-loop-progress
decreases-loop-progress l = length (lines (in_characters l.fn.source)) - l.lines.given
