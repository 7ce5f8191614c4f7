pub mod Answers
pub mod LineReadings
pub mod Inner
