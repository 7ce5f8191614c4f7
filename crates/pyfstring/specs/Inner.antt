-- What serves proofs alone.
pub mod Passing
pub mod Fronts
