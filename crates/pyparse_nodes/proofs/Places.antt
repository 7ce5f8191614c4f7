-- What stands at a place.
pub mod Here
pub mod Stands
pub mod Alone
pub mod Boundaries
