-- What callers cite of places.
pub mod Counting
pub mod Shortness
pub mod Sums
pub mod Unplaced
