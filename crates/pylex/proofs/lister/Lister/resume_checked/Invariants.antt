use Rattle.std.proofs.Common.{◌≡◌}
use Rattle.pylex_listing.specs.Listing.{in_characters}
use Rattle.pylex.specs.Listers.{StandsIn}
use Rattle.pylex.proofs.lister.Lister.resume_checked.Given as goal

abbrev pub invariant-loop-given : goal.invariant-loop-given
invariant-loop-given l = record {
  stands : StandsIn l.lister (in_characters l.source) l._given;
  source : l.lister.source ≡ l.source;
}
