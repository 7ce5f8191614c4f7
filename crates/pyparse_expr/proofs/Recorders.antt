-- The places that the readers record.
pub mod Aside
pub mod Atoms
pub mod Calls
pub mod Chains
pub mod Levels
pub mod Made
pub mod Misses
pub mod Operations
pub mod Reads
pub mod Signatures
pub mod Strings
pub mod Tails
pub mod Wholes
