use Rattle.std.proofs.Common.{sym}
use Rattle.pytree_fits.proofs.TargetShapes.{not_starred}
use Rattle.pytree_fits.proofs.places.is_starred.Goals as goal

pub returns-in_default : goal.returns-in_default
returns-in_default c = sym (not_starred c.args.expr.now c.in_default.not-Starred)
