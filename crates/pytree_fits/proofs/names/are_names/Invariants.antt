use Rattle.std.proofs.Common.{◌≡◌, take, true}
use Rattle.std.specs.List.{list_all}
use Rattle.pytree_fits.specs.Names.{is_name}
use Rattle.pytree_fits.proofs.names.are_names.Given as goal

abbrev pub invariant-loop-name : goal.invariant-loop-name
invariant-loop-name l = list_all is_name (take l.name-index l.names) ≡ true
