use Rattle.std.proofs.Common.{◌≡◌, ◌++◌, true, length}
use Rattle.std.specs.List.{list_all}
use Rattle.pytoken.specs.Laws.{is_byte}
use Rattle.pytoken.specs.Inner.Readings.{body_points}
use Rattle.pytoken.proofs.values.literals.push_bytes.Given as goal

abbrev pub invariant-loop-meaning : goal.invariant-loop-meaning
invariant-loop-meaning l = list_all is_byte (body_points l.raw true l.initial.left) ≡ true
    → (l.bytes.items ++ body_points l.raw true l.left ≡ l.initial.bytes.items ++ body_points l.raw true l.initial.left)
    × (list_all is_byte (body_points l.raw true l.left) ≡ true)

abbrev pub decreases-loop-meaning : goal.decreases-loop-meaning
decreases-loop-meaning l = length l.left
