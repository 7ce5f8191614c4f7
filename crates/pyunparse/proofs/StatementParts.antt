-- What is written for a statement, part by part.
pub mod DottedLemmas
pub mod HeaderLemmas
pub mod ImportLemmas
pub mod SimpleLemmas
pub mod TypeLemmas
pub mod WithLemmas
