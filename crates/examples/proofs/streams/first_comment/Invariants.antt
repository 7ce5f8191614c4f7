use Rattle.std.proofs.Common.{◌-◌}
use Rattle.pylex_listing.specs.Steps.{most_entries}
use Rattle.examples.proofs.StreamLemmas.{Searches}
use Rattle.examples.proofs.streams.first_comment.Given as goal

abbrev pub invariant-loop-lister : goal.invariant-loop-lister
invariant-loop-lister g l = Searches (g.R.ByteIn.seen l.fn.reader) (g.R.ByteIn.seen l.lister.reader) l.lister.lister

abbrev pub decreases-loop-lister : goal.decreases-loop-lister
decreases-loop-lister g l = most_entries - l.lister.lister.shown.given
