use Rattle.pytree_node.specs.TreeOf.{tree_of}
use Rattle.pytree_fits.specs.Tests.{tests_at}
use Rattle.pytree_fits.specs.PatternSlots.{key_fits}
use Rattle.pytree_fits.proofs.Loops.{mapped_on, mapped_stops}
use Rattle.pytree_fits.proofs.pattern_values.keys_fit.Goals as goal

pub loop-key-preserved : goal.loop-key-preserved
loop-key-preserved c = mapped_on (key_fits (tests_at c.args.asked.extent c.args.asked.fields)) tree_of _ c.loop-key-test.true c.key-item.is
    c.loop-key.invariant c.in_ok-key_fits.ensures c.if-not-branch.false

pub returns-then-not-branch : goal.returns-then-not-branch
returns-then-not-branch c = mapped_stops (key_fits (tests_at c.args.asked.extent c.args.asked.fields)) tree_of _ c.loop-key-test.true
    c.key-item.is c.in_ok-key_fits.ensures c.if-not-branch.true
