pub mod Callers
mod Worked
mod ByteLemmas
mod Cutting
mod PassLemmas
mod PartLemmas
mod MarkLemmas
mod PlaceLemmas
mod Placing
mod Fitting
mod FittingParts
mod FittingTokens
