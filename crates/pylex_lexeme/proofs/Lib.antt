mod Computing
mod Fronts
mod Numbers
mod Strings
mod Lexemes
mod WholeLines
pub mod Callers
