use Rattle.pylex.proofs.Listers.Placing.{has_place}
use Rattle.pylex.proofs.lister.Lister.shows.Goals as goal

pub is_at-requires : goal.is_at-requires
is_at-requires c = has_place c.self.inside.source.now c.self.inside.machine c.self.inside.left.now c.self.invariant
