-- On: names of a tree, and names with dots between. Declares nothing.
pub use Rattle.pytree_fits.proofs.Fields.Dots.{is_other, one_part, part_before_dot}
pub use Rattle.pytree_fits.proofs.Exactness.Modules.{undotted}
pub use Rattle.pytree_fits.proofs.Exactness.Words.{type_is_name, match_is_name, case_is_name, wildcard_is_name}
pub use Rattle.pytree_fits.proofs.Exactness.ProperNames.{proper, proper_name}
pub use Rattle.pytree_fits.proofs.DottedLemmas.{chars_around, sides}
