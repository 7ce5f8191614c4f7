-- Literals and f-strings.
pub mod Values
pub mod Begins
pub mod LiteralRuns
pub mod Parts
pub mod Fields
