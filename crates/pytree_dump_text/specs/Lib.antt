pub mod Blocks
pub mod Layout
pub mod Names
pub mod Shows
pub mod Slots
