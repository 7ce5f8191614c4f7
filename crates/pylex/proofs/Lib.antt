pub mod Callers
pub mod CallersOfSpots
mod Worked
mod Levels
mod MachineLaws
mod Listers
mod SpotSteps
mod Resumption
mod Texts
mod Listing
mod LineByLine
