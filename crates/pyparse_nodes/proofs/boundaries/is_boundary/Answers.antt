use Rattle.pyparse_nodes.proofs.Places.Boundaries.{boundary_stands}
use Rattle.pyparse_nodes.proofs.boundaries.is_boundary.Goals as goal

pub returns-in-Some : goal.returns-in-Some
returns-in-Some c = boundary_stands c.args.tokens.now c.args.at c.args.boundary _ c.boundary_is.result c.in-Some.ensures.within
    c.in-Some.ensures.is c.boundary_is.ensures
