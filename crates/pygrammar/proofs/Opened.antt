pub mod Counts
pub mod Closing
pub mod Expressions
pub mod Patterns
mod Parts
pub mod Forms
pub mod Tokens
