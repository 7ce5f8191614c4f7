use Rattle.pylex.proofs.Listers.Placing.{has_place, has_row}
use Rattle.pylex.proofs.lister.Lister.cursor.Goals as goal

pub cursor-requires-clause-place : goal.cursor-requires-clause-place
cursor-requires-clause-place c = has_place c.self.inside.source.now c.self.inside.machine c.self.inside.left.now c.self.invariant

pub cursor-requires-clause-row : goal.cursor-requires-clause-row
cursor-requires-clause-row c = has_row c.self.inside.source.now c.self.inside.machine c.self.inside.left.now c.self.invariant
