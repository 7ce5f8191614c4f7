-- Pieces one after another are told apart.
pub mod Joins
pub mod Forms
pub mod Writing
