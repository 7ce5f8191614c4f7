use Rattle.std.proofs.Common.{sym}
use Rattle.pytree_fits.specs.Tests.{tests_at}
use Rattle.pytree_fits.proofs.ValueShapes.{not_dotted}
use Rattle.pytree_fits.proofs.pattern_values.+dotted.Goals as goal

pub returns-in_default : goal.returns-in_default
returns-in_default t c =
    sym (not_dotted c.args.expr.now c.in_default.not-Attribute c.in_default.not-Name (tests_at c.args.asked.extent c.args.asked.fields))
