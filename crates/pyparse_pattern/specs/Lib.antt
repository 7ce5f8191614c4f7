pub mod Inner
pub mod Answers
pub mod Patterns
