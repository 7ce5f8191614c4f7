use Rattle.pyplaces.proofs.LineStartLemmas.{starts_hold}
use Rattle.pyplaces.proofs.places.Places.new.Goals as goal

pub invariant_of-result : goal.invariant_of-result
invariant_of-result c = starts_hold _ _ c.in_ok-starts.ensures c.text.ensures.within
