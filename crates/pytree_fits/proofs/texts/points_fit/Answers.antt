use Rattle.std.proofs.Common.{◌≡◌, sym, subst, true}
use Rattle.pytree_fits.specs.Literals.{has_text}
use Rattle.pytree_fits.proofs.texts.points_fit.Goals as goal
use Rattle.pyunparse_text.proofs.Callers.Said.{points_stand}

pub returns-in-0 : goal.returns-in-0
returns-in-0 c = sym (subst (λ k. has_text k c.args.points.now ≡ true) (sym c.in-0.is) (points_stand c.args.points.now c.requires))
