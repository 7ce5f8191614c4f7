-- What callers cite of pieces one after another, and of the listing of their lines. Cited by
-- pyunparse_text.
pub use Rattle.pyunparse_text.proofs.Listings.Runs.{AreScalar}
pub use Rattle.pyunparse_text.proofs.Listings.Tells.{bytes_both}
pub use Rattle.pyunparse_text.proofs.TokenLists.Forms.{Written, both, weaker}
pub use Rattle.pyunparse_text.proofs.TokenLists.Joins.{Balanced, balanced_both, balanced_closes, balanced_none, balanced_one}
pub use Rattle.pyunparse_text.proofs.TokenLists.Joins.{balanced_within}
pub use Rattle.pyunparse_text.proofs.TokenLists.Joins.{begins_both, neat_apart, neat_readable}
pub use Rattle.pyunparse_text.proofs.TokenLists.Writing.{begin_at, rise_both}
pub use Rattle.pyfstring_tokens.proofs.Callers.Lexemes.{sliced}
