pub mod FieldTokens
pub mod Answers
pub mod Standing
pub mod Given
pub mod Laws
pub mod Inner
