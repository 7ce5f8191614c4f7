-- How deep the reader goes, and the plain reader as a whole.
pub mod Keeps
pub mod Weights
pub mod Enough
pub mod Whole
