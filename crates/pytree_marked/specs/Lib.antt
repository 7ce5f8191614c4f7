pub mod MarkedNodes
pub mod MarkedOptions
pub mod Taking
pub mod Appends
pub mod Counts
