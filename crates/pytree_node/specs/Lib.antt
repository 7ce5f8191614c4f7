pub mod Inner
pub mod Points
pub mod Profiles
pub mod TreeOf
pub mod Trees
pub mod Values
