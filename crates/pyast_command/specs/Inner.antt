pub mod Reading
pub mod Taken
