pub mod Readings
pub mod PlacedParts
