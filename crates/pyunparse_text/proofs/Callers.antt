-- What other crates cite: the laws of what a tree is written in.
pub mod Shortest
pub mod Read
pub mod Patterns
pub mod Modules
pub mod Texts
pub mod Trees
pub mod Law
pub mod Said
pub mod Strings
-- What other crates cite of pyunparse_text.
pub mod Pieces
pub mod Tokens
pub mod Lists
pub mod Writing
