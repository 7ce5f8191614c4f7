mod Machine
mod Signs
mod Expressions
mod Patterns
mod Trailers
mod Statements
pub mod Law
