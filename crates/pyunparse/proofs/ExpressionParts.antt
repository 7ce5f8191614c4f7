-- What is written for an expression, part by part.
pub mod ArgumentLemmas
pub mod ClassLemmas
pub mod ParameterLemmas
pub mod PartLemmas
pub mod StarLemmas
pub mod StringLemmas
pub mod TupleLemmas
