use Rattle.std.proofs.Common.{◌≡◌, take, true}
use Rattle.std.specs.List.{list_all}
use Rattle.pytree_fits.specs.Literals.{is_no_brace}
use Rattle.pytree_fits.proofs.texts.are_no_braces.Given as goal

abbrev pub invariant-loop-point : goal.invariant-loop-point
invariant-loop-point l = list_all is_no_brace (take l.point-index l.points) ≡ true
