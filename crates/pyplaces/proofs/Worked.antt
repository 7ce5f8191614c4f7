pub mod Derivations
mod Expressions
mod Lines
mod Texts
mod Climbs
