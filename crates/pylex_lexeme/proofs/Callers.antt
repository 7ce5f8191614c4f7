-- What other crates cite of pylex_lexeme.
pub mod Fronts
pub mod Lexemes
pub mod Numbers
pub mod Strings
pub mod WholeLines
pub mod Tables
