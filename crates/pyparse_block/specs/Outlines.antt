-- The outline of lines: what their reading keeps of them without the trees, and how deep their last ones stand.
use Rattle.std.specs.Prelude.{◌≡◌, Bool, List, [], map, reverse, min}
use Rattle.pygrammar.specs.Lines.{Line}
use Rattle.pygrammar.specs.Reading.{Answer, Fine, then, grows, Waiting, State, start, run}
use Rattle.pygrammar.specs.Reading as reading
use Rattle.pygrammar.specs.Depths.{Depth, count}
use Rattle.pyparse_block.specs.declared.outline.groups.GroupKind.{GroupKind}
use Rattle.pyparse_block.specs.declared.outline.groups.GroupKind.TheVariants as group
use Rattle.pyparse_block.specs.declared.outline.levels.Levels as given_levels
use Rattle.pyparse_block.specs.declared.outline.depths.Last as given_last
use Rattle.pyparse_block.specs.declared.outline.outlines.Outline.{Outline}

-- ---- What is kept of a reading.

-- the statement that a level has open
abbrev pub group_of : reading.Group → GroupKind
group_of reading.Idle = group.Idle
group_of (reading.Marked _) = group.Marked
group_of (reading.Choice _) = group.Choice
group_of (reading.Loop _ _) = group.Loop
group_of (reading.Trial _) = group.Trial
group_of (reading.Caught star _ _) = group.Caught star
group_of (reading.Settled _ _ _ _) = group.Settled
group_of (reading.Matching _) = group.Matching

-- a level that waits for a block: what it has open once that is whole, whatever its statements are
abbrev pub awaited : Waiting → GroupKind
awaited w = group_of (grows w.group w.header []).group

-- what is kept of the open levels: what the deepest has open, whether it has had no line yet, and what those below it
-- will have, the deepest first
pub record Levels : Type 0 where
  pub group : GroupKind
  pub fresh : Bool
  pub below : List GroupKind

abbrev pub levels : GroupKind → Bool → List GroupKind → Levels
levels g fresh below = record { group = g; fresh = fresh; below = below }

-- of a state of the reading
abbrev pub outline : State → Levels
outline s = levels (group_of s.group) s.fresh (map awaited s.below)

-- and of its answer
abbrev pub outlined : Answer State → Answer Levels
outlined a = then a (λ s. Fine (outline s))

-- ---- What is kept of depths.

-- no more is counted than 500, from which on a statement stands too deep
abbrev pub capped : Depth → Depth
capped d = record { level = d.level; round = min 500 d.round; arms = min 500 d.arms; own = d.own }

-- ---- What the program keeps. The deepest level stands last there.

abbrev pub levels_of : given_levels.Levels → Levels
levels_of s = levels s.group s.fresh (reverse s.below.items)

abbrev pub last_of : given_last.Last → Depth
last_of d = record { level = d.level; round = d.round; arms = d.arms; own = d.own }

abbrev pub lasts_of : List given_last.Last → List Depth
lasts_of ds = reverse (map last_of ds)

-- it is what is kept of these lines, none of which is faulty
pub record Follows (xs : List Line) (o : Outline) : Type 0 where
  pub read : outlined (run xs start) ≡ Fine (levels_of o.levels)
  pub counted : lasts_of o.depths.lasts.items ≡ map capped (count [] xs)
