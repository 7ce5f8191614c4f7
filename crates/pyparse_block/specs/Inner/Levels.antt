-- The end of one level.
use Rattle.std.specs.Prelude.{false, cond, List, [], ◌∷◌, Option, Some, None}
use Rattle.pygrammar.specs.Blocks.{ExpectedIndent, MisplacedClause}
use Rattle.pygrammar.specs.Reading.{Answer, Fine, Faulty, PartialBlock, Waiting, State, state, above}

-- what is kept after a level that ended, by what the level below it has now
abbrev pub following : List Waiting → Option PartialBlock → Answer State
following below made = elim made [ None ↦ Faulty MisplacedClause | Some p ↦ Fine (state p.done p.group false below) ]

-- the deepest level comes to its end, with this one below it
abbrev pub popped : State → Waiting → List Waiting → Answer State
popped s w below = cond s.fresh (Faulty ExpectedIndent) (following below (above w s.done s.group))

-- the deepest level comes to its end
abbrev pub ended : State → Answer State
ended s = elim s.below [ [] ↦ Fine s | w ∷ below ↦ popped s w below ]
