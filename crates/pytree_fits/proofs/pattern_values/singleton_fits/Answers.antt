use Rattle.std.proofs.Common.{sym}
use Rattle.pytree_fits.proofs.ValueShapes.{not_singleton}
use Rattle.pytree_fits.proofs.pattern_values.singleton_fits.Goals as goal

pub returns-in_default : goal.returns-in_default
returns-in_default c = sym (not_singleton c.args.expr.now c.in_default.not-Constant)
