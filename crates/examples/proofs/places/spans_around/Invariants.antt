use Rattle.std.proofs.Common.{◌≡◌, ◌++◌, drop, filter, map}
use Rattle.pyplaces.specs.Recording.{told}
use Rattle.examples.specs.Places.{holds}
use Rattle.examples.proofs.places.spans_around.Given as goal

abbrev pub invariant-loop-i : goal.invariant-loop-i
invariant-loop-i l =
    map told l.found.items ++ filter (holds l.fn.byte) (drop l.i l.fn.places.spans) ≡ filter (holds l.fn.byte) l.fn.places.spans
