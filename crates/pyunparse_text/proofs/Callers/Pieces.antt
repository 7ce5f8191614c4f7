-- What callers cite of pieces that are the lexeme at the front of the text from them on. Cited
-- by pyunparse_text.
pub use Rattle.pyunparse_text.proofs.Law.{written_is_clear, written_is_read}
pub use Rattle.pyunparse_text.proofs.LexemeFronts.OperatorFronts.{begins_word, is_sign_char, of_any, sign_of}
pub use Rattle.pyunparse_text.proofs.LexemeFronts.PieceFronts.{ArePieces, Off, no_token, none_empty}
