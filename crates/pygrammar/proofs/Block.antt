pub mod Steps
pub mod Leads
pub mod Standing
pub mod Growing
pub mod Nested
pub mod Sound
pub mod Fitting
pub mod Settling
pub mod Law
pub mod Answer
pub mod Around
pub mod Heights
pub mod Deep
pub mod Starts
pub mod Total
pub mod Depths
pub mod FirstDeep
pub mod LineMore
pub mod Reasons
pub mod Types
mod Worked
mod WorkedDepths
mod WorkedMatches
