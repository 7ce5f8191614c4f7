use Rattle.std.proofs.Common.{sym}
use Rattle.pytree_fits.proofs.StringShapes.{not_text}
use Rattle.pytree_fits.proofs.strings.is_text.Goals as goal

pub returns-in_default : goal.returns-in_default
returns-in_default c = sym (not_text c.args.value.now c.in_default.not-Constant)
