-- What other crates cite of pyfstring_tokens.
pub mod Law
pub mod Lexemes
