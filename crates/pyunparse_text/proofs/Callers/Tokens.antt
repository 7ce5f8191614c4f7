-- What callers cite of texts that are one token. Cited by pyunparse_text.
pub use Rattle.pyunparse_text.proofs.SingleTokens.Literals.{bytes_token, marked_token, text_token}
pub use Rattle.pyunparse_text.proofs.SingleTokens.Scalars.{bytes_scalars, text_scalars}
