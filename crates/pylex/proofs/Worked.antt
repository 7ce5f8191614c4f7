-- Worked examples, by computation.
pub mod Computing
pub mod Examples
pub mod LiteralExamples
