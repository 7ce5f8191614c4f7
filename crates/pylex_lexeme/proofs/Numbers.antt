-- The longest number.
pub mod NumberSets
pub mod Parts
pub mod NumberBest
