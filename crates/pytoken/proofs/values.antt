mod NameLemmas
mod ClearLemmas
mod NumberLemmas
mod ShortLemmas
mod DigitLemmas
mod EscapeLemmas
mod Filtered
mod OwnLemmas
mod LiteralLemmas
mod RunLemmas
mod PlainLemmas
mod CalmLemmas
mod FaultLemmas
mod TerminalLemmas
pub mod PushLemmas
mod EscapeFaults
mod FieldLemmas
mod Faulting
mod FormattedLemmas
mod BodyLemmas
pub mod ElementLemmas
mod PieceLemmas
