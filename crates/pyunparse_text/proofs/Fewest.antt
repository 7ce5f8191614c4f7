-- The laws of fewest brackets.
pub mod Counted
pub mod Sizes
pub mod Reach
pub mod Less
pub mod Claims
pub mod Entries
pub mod Clauses
pub mod Calls
pub mod Arranged
pub mod Params
pub mod Strings
pub mod Induction
pub mod Places
pub mod Flat
