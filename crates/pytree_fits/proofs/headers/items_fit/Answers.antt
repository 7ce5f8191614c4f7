use Rattle.pytree_node.specs.TreeOf.{item_of}
use Rattle.pytree_fits.specs.Tests.{tests_at}
use Rattle.pytree_fits.specs.Statements.{item_fits}
use Rattle.pytree_fits.proofs.Chains.{second_fails}
use Rattle.pytree_fits.proofs.Loops.{mapped_on, mapped_stops}
use Rattle.pytree_fits.proofs.headers.items_fit.Goals as goal

pub loop-item-preserved : goal.loop-item-preserved
loop-item-preserved c = mapped_on (item_fits (tests_at c.args.asked.extent c.args.asked.fields)) item_of _ c.loop-item-test.true
    c.item-item.is c.loop-item.invariant c.in_ok-item_fits.ensures c.if-not-branch.false

pub returns-then-not-branch : goal.returns-then-not-branch
returns-then-not-branch c = second_fails _ _ (mapped_stops (item_fits (tests_at c.args.asked.extent c.args.asked.fields)) item_of _
    c.loop-item-test.true c.item-item.is c.in_ok-item_fits.ensures c.if-not-branch.true)
