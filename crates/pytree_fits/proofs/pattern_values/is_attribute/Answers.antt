use Rattle.std.proofs.Common.{sym}
use Rattle.pytree_fits.proofs.ValueShapes.{not_attribute}
use Rattle.pytree_fits.proofs.pattern_values.is_attribute.Goals as goal

pub returns-in_default : goal.returns-in_default
returns-in_default c = sym (not_attribute c.args.expr.now c.in_default.not-Attribute)
