-- Expressions as targets.
pub mod TargetShapes
pub mod Changes
pub mod TurnedHeights
pub mod TargetSteps
