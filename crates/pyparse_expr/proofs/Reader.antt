-- The reader of expressions, level by level.
pub mod Reading
pub mod Climbs
pub mod Trails
pub mod LevelSteps
pub mod AtomSteps
pub mod AloneSteps
pub mod Wholes
pub mod ChainSteps
pub mod PartSteps
pub mod SlicePlaces
pub mod PartPlaces
