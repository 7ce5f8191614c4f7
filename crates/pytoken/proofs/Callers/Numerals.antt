-- On: the texts that are written for floats, imaginary numbers and whole numbers of any size are NUMBER lexemes, and stand for them again.
--
-- Carries: what the text of a tree with such constants needs.
pub use Rattle.pytoken.proofs.Numerals.Lexemes.{float_lexeme, imaginary_lexeme, whole_lexeme}
pub use Rattle.pytoken.proofs.Numerals.Lexemes.{IsNumeral, numeral_of, float_numeral, imaginary_numeral, whole_numeral}
pub use Rattle.pytoken.proofs.Numerals.Ends.{last_of}
