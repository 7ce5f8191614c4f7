-- The row and the column of an offset.
pub mod PlacesLemmas
pub mod CharPlaces
