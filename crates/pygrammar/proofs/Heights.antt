-- The reader within a height.
pub mod HeightLemmas
pub mod FieldLemmas
pub mod Brackets
pub mod Bound
pub mod Over
pub mod Caps
pub mod KeepsCapped
pub mod Limits
pub mod Room
pub mod Contract
