pub mod Meeting
pub mod Levels
pub mod Shapes
pub mod Steps
pub mod Counting
