-- On: the laws of the slots, and a module's lines as forms. Declares nothing.
pub use Rattle.pytree_fits.proofs.Exactness.Exactly.{fits_exactly, targets_fit_exactly, parameters_fit_exactly, arguments_fit_exactly}
pub use Rattle.pytree_fits.proofs.Exactness.Patterns.{patterns_fit_exactly}
pub use Rattle.pytree_fits.proofs.Exactness.Modules.{module_exactly, module_given}
pub use Rattle.pytree_fits.proofs.Exactness.InTokens.{expressions_fit_exactly, patterns_fit_exactly_in_tokens, modules_fit_exactly}
pub use Rattle.pytree_fits.proofs.Exactness.Stays.{expressions_stay, modules_stay}
pub use Rattle.pytree_fits.proofs.Exactness.Lawful.{slots_are_lawful}
