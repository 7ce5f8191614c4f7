pub mod Listings
pub mod Modules
pub mod Dumps
pub mod Unparses
pub mod Runs
pub mod Checks
pub mod Inner
