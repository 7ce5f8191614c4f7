-- The text before the first faulty line, and that line's fault.
pub mod ReturnsLemmas
pub mod LinesLemmas
pub mod BadLemmas
pub mod CutLemmas
pub mod GoodLemmas
