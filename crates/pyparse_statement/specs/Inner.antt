pub mod Definitions
pub mod Items
pub mod Words
pub mod Imports
pub mod Simple
pub mod Types
