-- What callers cite of the shapes of trees, and of targets. Cited by pytree_fits and pyunparse.
pub use Rattle.pyunparse_text.proofs.Fewest.Claims.{given}
pub use Rattle.pyunparse_text.proofs.Fewest.Clauses.{both_is, mapped_is, star_stored}
