-- The places that the readers record.
pub mod Cases
pub mod Fronts
