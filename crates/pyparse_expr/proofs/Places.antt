-- What stands at a place.
pub mod Signs
