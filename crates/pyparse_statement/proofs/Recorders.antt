-- The places that the readers record.
pub mod Definitions
pub mod Headers
pub mod Imports
pub mod Parts
pub mod Says
pub mod Types
pub mod Values
pub mod Words
