-- What callers cite of reprs, and of what can be printed. Cited by pytree_dump, pylex, pytree_fits,
-- pyunparse_text, pytoken.
pub use Rattle.pysource.proofs.Printing.Categories.{unprintable_no_character}
pub use Rattle.pysource.proofs.Printing.PushReprLemmas.{plain_repr, plain_repr_characters}
