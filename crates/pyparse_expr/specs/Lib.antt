pub mod Inner
pub mod Expressions
