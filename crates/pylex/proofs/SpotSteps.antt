-- Spots: how a lister goes from one to the next.
pub mod Rows
pub mod Passing
pub mod Going
pub mod Beginning
