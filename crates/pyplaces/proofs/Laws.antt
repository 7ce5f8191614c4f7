-- The laws of places.
mod Many
mod Contexts
mod Parameters
mod Entries
mod Expressions
mod Patterns
pub mod Forms
pub mod Blocks
mod Within
mod Tokens
mod PatternTokens
mod FormTokens
mod Nested
mod PatternNested
mod Laminar
mod Apart
mod PatternApart
mod FormApart
mod InOrder
pub mod Law
