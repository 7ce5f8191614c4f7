-- The laws of written patterns.
pub mod OfTokens
pub mod Values
pub mod Sizes
pub mod Claims
pub mod Entries
pub mod Induction
pub mod Flat
pub mod Sound
pub mod Readable
