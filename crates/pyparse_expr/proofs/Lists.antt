-- Lists with commas, and what stands in brackets and braces.
pub mod ListSteps
pub mod SquareSteps
pub mod PairSteps
pub mod BraceSteps
pub mod ListPlaces
pub mod PairPlaces
pub mod BracePlaces
