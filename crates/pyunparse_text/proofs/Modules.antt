-- The law of modules.
pub mod Parts
pub mod Simple
pub mod Headers
pub mod Balanced
pub mod With
pub mod Wells
pub mod Shapes
pub mod Places
pub mod Again
pub mod Law
pub mod Low
pub mod FlatLines
pub mod LinesRead
pub mod Accepted
pub mod High
pub mod OfSources
