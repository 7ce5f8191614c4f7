pub mod Following
pub mod Cuts
pub mod Pushing
pub mod Readings
