use Rattle.std.proofs.Common.{◌≡◌, take, true}
use Rattle.std.specs.List.{list_all}
use Rattle.pytree_fits.specs.Literals.{is_bare}
use Rattle.pytree_fits.proofs.texts.are_bare.Given as goal

abbrev pub invariant-loop-point : goal.invariant-loop-point
invariant-loop-point l = list_all is_bare (take l.point-index l.points) ≡ true
