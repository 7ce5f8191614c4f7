mod Entries
mod TokenLines
mod Aligned
mod Filling
mod Walks
mod FormattedWalks
mod TokenWalks
mod LineSpans
mod Simples
mod Lines
mod Together
mod Blocks
mod Laminar
mod LaminarBlocks
mod LaminarLines
pub mod Law
