-- What callers cite of the first lexeme of some whole lines, whatever follows them, and of those
-- without a line feed. Cited by pylex.
pub use Rattle.pylex_lexeme.proofs.WholeLines.InLine.{not_feed, one_of}
pub use Rattle.pylex_lexeme.proofs.WholeLines.Kept.{len_kept, lexeme_kept, none_kept, open_kept, same_within, len_within}
pub use Rattle.pylex_lexeme.proofs.WholeLines.LineFronts.{opens_kept, significant_kept}
pub use Rattle.pylex_lexeme.proofs.WholeLines.OneLine.{flat_in, is_flat}
