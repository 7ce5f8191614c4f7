use Rattle.std.proofs.Common.{◌≡◌, ◌-◌, ◌≤◌, length, take}
use Rattle.std.specs.Str.{chars}
use Rattle.pylex_listing.specs.Listing.{in_characters, listing}
use Rattle.pylex_listing.specs.Laws.{IsWhole, AllLie}
use Rattle.pylex.specs.Listers.{StandsIn}
use Rattle.pylex_listing.specs.Steps.{most_entries, entries_of}
use Rattle.pytoken.specs.Laws.{TokensAreSound}
use Rattle.pyparse_tokens.specs.Inner.Gathering.{Gathered}
use Rattle.pyparse_tokens.proofs.tokens.tokens_of.Given as goal

abbrev pub invariant-loop-gather : goal.invariant-loop-gather
invariant-loop-gather l = record {
  stands : StandsIn l.lister (in_characters l.fn.source) l.lister.shown.given;
  within : l.lister.shown.given ≤ length (entries_of (listing (in_characters l.fn.source)));
  few : l.lister.shown.given ≤ most_entries;
  whole : IsWhole (in_characters l.fn.source);
  typed : TokensAreSound (in_characters l.fn.source);
  lies : AllLie l.fn.source.text (listing (in_characters l.fn.source));
  extent : l.gather.pass.extent ≡ l.fn.extent;
  gathered : Gathered (chars l.fn.source.text) (take l.lister.shown.given (entries_of (listing (in_characters l.fn.source)))) l.gather;
}

abbrev pub decreases-loop-gather : goal.decreases-loop-gather
decreases-loop-gather l = length (entries_of (listing (in_characters l.fn.source))) - l.lister.shown.given
