use Rattle.std.proofs.Common.{sym}
use Rattle.pytree_fits.proofs.TargetShapes.{not_single}
use Rattle.pytree_fits.proofs.places.is_single.Goals as goal

pub returns-in_default : goal.returns-in_default
returns-in_default c = sym (not_single c.args.expr.now c.in_default.not-Attribute c.in_default.not-Subscript c.in_default.not-Name)
