-- What pyparse cites.
pub mod ProgressLemmas
pub mod FinishLemmas
pub use Rattle.pyparse_block.proofs.CaseLines.Law.{places_are_lawful}
