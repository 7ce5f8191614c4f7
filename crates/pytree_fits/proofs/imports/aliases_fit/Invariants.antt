use Rattle.std.proofs.Common.{◌≡◌, map, take, true}
use Rattle.std.specs.List.{list_all}
use Rattle.pytree_node.specs.TreeOf.{alias_of}
use Rattle.pytree_fits.specs.Names.{is_name}
use Rattle.pytree_fits.specs.Statements.{alias_fits}
use Rattle.pytree_fits.proofs.imports.aliases_fit.Given as goal

abbrev pub invariant-loop-alias : goal.invariant-loop-alias
invariant-loop-alias l = list_all (alias_fits is_name) (map alias_of (take l.alias-index l.names)) ≡ true
