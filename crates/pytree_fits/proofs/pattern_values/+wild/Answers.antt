use Rattle.std.proofs.Common.{sym}
use Rattle.pytree_fits.proofs.ValueShapes.{not_started}
use Rattle.pytree_fits.proofs.pattern_values.+wild.Goals as goal

pub returns-in_default : goal.returns-in_default
returns-in_default t c = sym (not_started c.args.expr.now c.in_default.not-Attribute c.in_default.not-Name)
