-- What callers cite of what is written of tokens, and of the shapes of trees. Cited by pyunparse.
pub use Rattle.pyunparse_text.proofs.Texts.BracketLemmas.{not_zero, one_item}
pub use Rattle.pyunparse_text.proofs.Texts.ReprLemmas.{both, one}
pub use Rattle.pyunparse_text.proofs.Texts.ShapeLemmas.{not_alone, not_generator, not_starred}
pub use Rattle.pyunparse_text.proofs.Texts.TokenLemmas.{elements_both, tokens_put}
pub use Rattle.pyunparse_text.proofs.Texts.WritingLemmas.{level_kept, line_written, star_bytes}
