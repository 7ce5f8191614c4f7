-- The reader finds each expression that the table gives.
pub mod LookLemmas
pub mod LevelLemmas
pub mod Climb
pub mod Strings
pub mod Lists
pub mod Comps
pub mod Forms
pub mod Atoms
pub mod Complete
