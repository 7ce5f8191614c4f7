-- The listing, which speaks of all lexemes before a place, is the run of a machine with a state.
pub mod Steps
pub mod Walking
pub mod Advancing
pub mod LexemeClasses
pub mod Told
