use Rattle.std.proofs.Common.{◌≡◌, ◌+◌, ◌-◌, ◌≤◌}
use Rattle.pylex_listing.specs.Listing.{in_characters}
use Rattle.pylex.specs.Listers.{StandsIn}
use Rattle.pylex_listing.specs.Steps.{most_entries}
use Rattle.examples.proofs.ListingLemmas.{names_left}
use Rattle.examples.proofs.listings.count_names.Given as goal

abbrev pub invariant-loop-lister : goal.invariant-loop-lister
invariant-loop-lister l = record {
  stands : StandsIn l.lister (in_characters l.fn.source) l.lister.shown.given;
  few : l.count ≤ l.lister.shown.given;
  within : l.lister.shown.given ≤ most_entries;
  counted : l.count + names_left (in_characters l.fn.source) l.lister.shown.given ≡ names_left (in_characters l.fn.source) 0;
}

abbrev pub decreases-loop-lister : goal.decreases-loop-lister
decreases-loop-lister l = most_entries - l.lister.shown.given
