pub mod Values
pub mod Levels
pub mod Lists
