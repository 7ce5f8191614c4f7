-- Carries: well_formed, well_formed_at. On: the laws of the slots.
use Rattle.pytree_fits.specs.Laws.{SlotsAreLawful}
use Rattle.pytree_fits.proofs.Exactness.Exactly.{fits_exactly, targets_fit_exactly, parameters_fit_exactly, arguments_fit_exactly}
use Rattle.pytree_fits.proofs.Exactness.Patterns.{patterns_fit_exactly}
use Rattle.pytree_fits.proofs.Exactness.InTokens.{expressions_fit_exactly, patterns_fit_exactly_in_tokens, modules_fit_exactly}
use Rattle.pytree_fits.proofs.Exactness.Stays.{expressions_stay, modules_stay}

pub slots_are_lawful : SlotsAreLawful
slots_are_lawful = record {
  exact = fits_exactly;
  targets = targets_fit_exactly;
  parameters = parameters_fit_exactly;
  arguments = arguments_fit_exactly;
  patterns = patterns_fit_exactly;
  expressions = expressions_fit_exactly;
  patterns_in_tokens = patterns_fit_exactly_in_tokens;
  modules = modules_fit_exactly;
  expressions_stay = expressions_stay;
  modules_stay = modules_stay;
}
