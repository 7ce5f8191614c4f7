-- Carries: the laws of patterns. On: a pattern fits exactly where some terminals are it.
use Rattle.pytree_fits.specs.Laws.{PatternsFitExactly}
use Rattle.pytree_fits.proofs.Fields.AsSpelled.{all_passing}
use Rattle.pytree_fits.proofs.Fitting.PatternFits.{fits}
use Rattle.pytree_fits.proofs.Giving.PatternGives.{pattern_given}

pub patterns_fit_exactly : PatternsFitExactly
patterns_fit_exactly n l p = (λ w. fits n w.2 w.1, λ h. let w = pattern_given n l p h in (w.0, all_passing n w.0 w.1, w.2))
