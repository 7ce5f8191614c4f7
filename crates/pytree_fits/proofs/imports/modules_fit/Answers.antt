use Rattle.pytree_node.specs.TreeOf.{alias_of}
use Rattle.pytree_fits.specs.Names.{is_name}
use Rattle.pytree_fits.specs.Statements.{import_fits}
use Rattle.pytree_fits.proofs.Chains.{second_fails}
use Rattle.pytree_fits.proofs.Loops.{mapped_on, mapped_stops}
use Rattle.pytree_fits.proofs.imports.modules_fit.Goals as goal

pub loop-alias-preserved : goal.loop-alias-preserved
loop-alias-preserved c = mapped_on (import_fits is_name) alias_of _ c.loop-alias-test.true c.alias-item.is c.loop-alias.invariant
    c.in_ok-module_fits.ensures c.if-not-branch.false

pub returns-then-not-branch : goal.returns-then-not-branch
returns-then-not-branch c = second_fails _ _ (mapped_stops (import_fits is_name) alias_of _ c.loop-alias-test.true c.alias-item.is
    c.in_ok-module_fits.ensures c.if-not-branch.true)
