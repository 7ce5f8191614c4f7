-- What callers cite of tables by byte. Cited by pylex.
pub use Rattle.pylex_lexeme.proofs.Fronts.Tables.{agree_at}
unfoldable pub use Rattle.pylex_lexeme.proofs.Fronts.Tables.{agree_below}
