-- What callers cite of the longest lexeme of all classes, and of the class of a text. Cited by
-- pylex, pyunparse_text, pytoken, pyunparse_text.
unfoldable pub use Rattle.pylex_lexeme.proofs.Computing.{lexemes}
pub use Rattle.pylex_lexeme.proofs.Lexemes.Classes.{by_words, heads, no_head, no_operator, start_continues, words}
pub use Rattle.pylex_lexeme.proofs.Lexemes.Cutting.{none_is}
pub use Rattle.pylex_lexeme.proofs.Lexemes.OperatorLengths.{no_operator_none, at_none, at_one}
pub use Rattle.pylex_lexeme.proofs.Lexemes.OperatorTexts.{exact_of_text, exact_scalars}
pub use Rattle.pylex_lexeme.proofs.Lexemes.Union.{blanks_take, both_take, class_at, class_none, comment_takes, feed_takes, name_takes}
pub use Rattle.pylex_lexeme.proofs.Lexemes.Union.{no_end_front, nothing_takes, number_takes, opens_off, operator_takes, string_takes}
pub use Rattle.pylex_lexeme.proofs.Lexemes.Union.{point_words, longest_passes}
