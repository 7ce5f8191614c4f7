use Rattle.pylex.proofs.Listers.Placing.{has_row}
use Rattle.pylex.proofs.LineByLine.Searching.{witness}
use Rattle.pylex.proofs.LineByLine.Steppings.{place_held}
use Rattle.pylex.proofs.line_lister.LineLister.cursor.Goals as goal

pub cursor-requires-clause-place : goal.cursor-requires-clause-place
cursor-requires-clause-place c = place_held c.self.inside.machine c.self.inside.chunk c.self.inside.last c.self.invariant

pub cursor-requires-clause-row : goal.cursor-requires-clause-row
cursor-requires-clause-row c = let w = witness c.self.inside.machine c.self.inside.chunk c.self.inside.last c.self.invariant in
    has_row w.source c.self.inside.machine _ w.streams.keeps
