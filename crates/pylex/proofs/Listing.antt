-- What holds of every listing.
pub mod Lying
pub mod Exactness
pub mod Ends
pub mod Order
pub mod Covering
pub mod Blocks
pub mod Counts
pub mod Unencoded
