pub mod Differences
pub mod Trails
pub mod Weights
pub mod Inner
pub mod Texts
