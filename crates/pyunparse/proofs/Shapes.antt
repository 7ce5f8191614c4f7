-- The shapes and the heights of trees that are walked.
pub mod StatementLemmas
pub mod ValueLemmas
pub mod HeightLemmas
pub mod MeasureLemmas
