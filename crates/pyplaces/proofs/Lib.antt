mod Worked
pub mod Fronts
pub mod Loops
pub mod Selections
pub mod Rows
pub mod Answers
pub mod Asides
pub mod RowEnds
pub mod Expressions
pub mod Patterns
pub mod Forms
pub mod Laws
mod LineStartLemmas
mod MarkLemmas
pub mod Moves
mod RowWalks
mod Settling
mod Adding
mod BlockLaw
mod StackLemmas
pub mod Unique
pub mod Order
