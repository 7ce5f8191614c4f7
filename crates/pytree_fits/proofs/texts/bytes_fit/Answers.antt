use Rattle.std.proofs.Common.{◌≡◌, sym, subst, true}
use Rattle.pytree_fits.specs.Literals.{has_bytes}
use Rattle.pytree_fits.proofs.InRange.{all_bytes}
use Rattle.pytree_fits.proofs.texts.bytes_fit.Goals as goal

pub returns-in-0 : goal.returns-in-0
returns-in-0 c = sym (subst (λ k. has_bytes k c.args.bytes.now ≡ true) (sym c.in-0.is) (all_bytes c.args.bytes.now c.type_inv.bytes))
