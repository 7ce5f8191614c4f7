pub mod Inner
pub mod Rows
pub mod Faults
