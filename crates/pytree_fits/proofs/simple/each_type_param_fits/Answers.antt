use Rattle.pytree_node.specs.TreeOf.{type_param_of}
use Rattle.pytree_fits.specs.Tests.{tests_at}
use Rattle.pytree_fits.specs.Statements.{type_param_fits}
use Rattle.pytree_fits.proofs.Loops.{mapped_on, mapped_stops}
use Rattle.pytree_fits.proofs.simple.each_type_param_fits.Goals as goal

pub loop-parameter-preserved : goal.loop-parameter-preserved
loop-parameter-preserved c = mapped_on (type_param_fits (tests_at c.args.asked.extent c.args.asked.fields)) type_param_of _
    c.loop-parameter-test.true c.parameter-item.is c.loop-parameter.invariant c.in_ok-type_param_fits.ensures c.if-not-branch.false

pub returns-then-not-branch : goal.returns-then-not-branch
returns-then-not-branch c = mapped_stops (type_param_fits (tests_at c.args.asked.extent c.args.asked.fields)) type_param_of _
    c.loop-parameter-test.true c.parameter-item.is c.in_ok-type_param_fits.ensures c.if-not-branch.true
