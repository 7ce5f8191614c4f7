-- The arguments of a call.
pub mod ArgumentOrder
pub mod ArgumentSteps
