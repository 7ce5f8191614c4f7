-- What callers cite of a lexeme in front, and of texts within a text. Declares nothing.
pub use Rattle.pyfstring_tokens.proofs.Parentheses.{is_lexeme}
pub use Rattle.pyfstring_tokens.proofs.Texts.{sliced}
