-- The places that the readers record.
pub mod Entries
pub mod Levels
pub mod Made
pub mod Sequences
pub mod Values
