pub mod Inner
pub mod Answers
pub mod PlacedParts
pub mod PlacedStatements
pub mod PlacedHeaders
