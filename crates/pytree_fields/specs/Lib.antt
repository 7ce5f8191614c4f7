pub mod Leaves
pub mod Things
pub mod Classes
pub mod LentThings
pub mod Shown
