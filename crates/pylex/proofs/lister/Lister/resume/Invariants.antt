use Rattle.std.proofs.Common.{◌≡◌, ◌+◌, ◌-◌}
use Rattle.pylex_listing.specs.Listing.{Source, in_characters}
use Rattle.pylex.specs.Standing.{IsCursorOf, Agrees}
use Rattle.pylex.specs.Listers.{StandsIn}
use Rattle.pylex.proofs.lister.Lister.resume.Given as goal

abbrev pub invariant-loop-given : goal.invariant-loop-given
invariant-loop-given l = record {
  source : l.lister.source ≡ l.source;
  stands : (a : Source) → IsCursorOf l.cursor a → Agrees a (in_characters l.source) l.cursor.offset
      → StandsIn l.lister a ((l.cursor.given - l.cursor.skip) + l._given);
}
