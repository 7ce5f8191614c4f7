pub mod Listings
pub mod Cursors
pub mod Streams
pub mod Trees
pub mod Faults
pub mod Places
pub mod Functions
