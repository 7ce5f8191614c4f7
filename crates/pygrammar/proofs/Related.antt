-- What holds of two readings of the same terminals by all combinators of the reader holds of the whole reader.
pub mod Sizes
pub mod Rules
pub mod Expressions
pub mod Strings
pub mod Levels
pub mod Capped
pub mod Lines
