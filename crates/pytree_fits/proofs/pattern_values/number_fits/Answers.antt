use Rattle.std.proofs.Common.{sym}
use Rattle.pytree_fits.specs.Tests.{tests_at}
use Rattle.pytree_fits.proofs.ValueShapes.{not_number}
use Rattle.pytree_fits.proofs.pattern_values.number_fits.Goals as goal

pub returns-in_default : goal.returns-in_default
returns-in_default c = sym (not_number c.args.expr.now c.in_default.not-Constant (tests_at c.args.asked.extent c.args.asked.fields))
