use Rattle.std.proofs.Common.{sym}
use Rattle.pytree_fits.proofs.Callers.Names.{wildcard_is_name}
use Rattle.pytree_fits.proofs.pattern_values.optional_capture_fits.Goals as goal

pub returns-in-None : goal.returns-in-None
returns-in-None c = rw c.in-None.is (sym wildcard_is_name)
