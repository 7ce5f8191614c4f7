-- The text that is written, and what it holds.
pub mod LineLemmas
pub mod NumberLemmas
pub mod StatedLemmas
