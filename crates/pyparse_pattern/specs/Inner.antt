pub mod Made
pub mod Values
pub mod Entries
pub mod Parts
pub mod Readings
pub mod Found
pub mod PlacedParts
