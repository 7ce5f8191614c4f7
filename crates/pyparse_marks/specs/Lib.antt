pub mod Spans
pub mod TokenSpans
pub mod LineSpans
pub mod Laws
pub mod Inner
