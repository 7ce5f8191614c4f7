pub mod Plain
pub mod Frequent
