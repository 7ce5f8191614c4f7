-- On: a module's text is a source that is accepted as the module, and as no other.
--
-- Carries: what pyast_command, pyunparse cite.
pub use Rattle.pyunparse_text.proofs.Modules.LinesRead.{modules_read as modules_are_read}
pub use Rattle.pyunparse_text.proofs.Modules.OfSources.{lines_of_tokens as tokens_are_of_tokens}
pub use Rattle.pyunparse_text.proofs.Modules.OfSources.{accepted_texts as accepted_texts_are_accepted}
pub use Rattle.pyunparse_text.proofs.Modules.Accepted.{texts_accepted as module_texts_are_accepted}
