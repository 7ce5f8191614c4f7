pub mod Answers
pub mod Fronts
pub mod Heights
pub mod Openings
pub mod Placed
