-- Texts that are one token.
pub mod Literals
pub mod Scalars
