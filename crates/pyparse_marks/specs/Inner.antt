-- What serves proofs alone.
pub mod Walking
