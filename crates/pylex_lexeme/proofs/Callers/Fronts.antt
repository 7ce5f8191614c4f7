-- What callers cite of the longest front of a text that passes a test. Cited by pylex,
-- pyunparse_text, pytoken.
pub use Rattle.pylex_lexeme.proofs.Fronts.Best.{split_all}
pub use Rattle.pylex_lexeme.proofs.Fronts.Joined.{joined_all, stop_first}
pub use Rattle.pylex_lexeme.proofs.Fronts.Longest.{IsBest, run_passes}
pub use Rattle.pylex_lexeme.proofs.Fronts.Texts.{length-text}
