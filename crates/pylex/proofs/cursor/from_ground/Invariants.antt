use Rattle.std.proofs.Common.{◌≡◌, ◌∷◌, take}
use Rattle.pylex.proofs.cursor.from_ground.Given as goal

abbrev pub invariant-loop-level : goal.invariant-loop-level
invariant-loop-level l = l.all.items ≡ 0 ∷ take l.level-index l.levels
