-- What a lister meets next, and how it moves by one step.
pub mod Measured
pub mod Finding
pub mod Ending
pub mod Looking
pub mod Moving
pub mod LookingOn
pub mod Placing
pub mod Ranges
