-- On: what is written is read back.
--
-- Carries: what pyunparse cites.
pub use Rattle.pyunparse_text.proofs.PieceLaws.Law.{expressions_read as expressions_are_read}
