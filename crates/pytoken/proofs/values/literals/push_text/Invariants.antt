use Rattle.std.proofs.Common.{◌≡◌, ◌++◌, true, false, length}
use Rattle.std.specs.List.{list_all}
use Rattle.pytoken.specs.Laws.{is_point}
use Rattle.pytoken.specs.Inner.Readings.{body_points}
use Rattle.pytoken.proofs.values.literals.push_text.Given as goal

abbrev pub invariant-loop-meaning : goal.invariant-loop-meaning
invariant-loop-meaning l = record {
  whole : l.points ++ body_points l.raw false l.left ≡ l.initial.points ++ body_points l.raw false l.initial.left;
  points : list_all is_point (body_points l.raw false l.left) ≡ true;
}

abbrev pub decreases-loop-meaning : goal.decreases-loop-meaning
decreases-loop-meaning l = length l.left
