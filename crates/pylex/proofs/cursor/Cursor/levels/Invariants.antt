use Rattle.std.proofs.Common.{◌≡◌, take}
use Rattle.pylex.proofs.cursor.Cursor.levels.Given as goal

abbrev pub invariant-loop-level : goal.invariant-loop-level
invariant-loop-level l = l.levels.items ≡ take l.level-index l.level-items
