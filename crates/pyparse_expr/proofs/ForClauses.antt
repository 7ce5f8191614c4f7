-- Comprehensions.
pub mod CompSteps
pub mod ClauseSteps
pub mod ClausePushes
pub mod ClauseParts
pub mod ClausePlaces
