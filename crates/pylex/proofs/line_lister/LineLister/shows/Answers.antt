use Rattle.pylex.proofs.LineByLine.Steppings.{place_held}
use Rattle.pylex.proofs.line_lister.LineLister.shows.Goals as goal

pub is_at-requires : goal.is_at-requires
is_at-requires c = place_held c.self.inside.machine c.self.inside.chunk c.self.inside.last c.self.invariant
