use Rattle.std.proofs.Common.{sym}
use Rattle.pytree_fits.proofs.TargetShapes.{not_a_name}
use Rattle.pytree_fits.proofs.places.is_a_name.Goals as goal

pub returns-in_default : goal.returns-in_default
returns-in_default c = sym (not_a_name c.args.expr.now c.in_default.not-Name)
