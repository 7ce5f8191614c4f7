pub use Rattle.pytoken.proofs.Callers.TextLemmas
mod ListingLemmas
mod EndLemmas
mod RisingLemmas
mod IndentLemmas
mod PassLemmas
mod GatherLemmas
mod TerminalLemmas
mod OperatorLemmas
mod LineLemmas
mod LineGatherLemmas
mod TakingLemmas
mod WalkLemmas
mod MarkLemmas
mod LineStartLemmas
