pub mod Parts
pub mod Simple
pub mod Values
pub mod Headers
pub mod Lines
