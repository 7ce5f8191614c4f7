-- What is written of a token into a text or a list, and which levels and brackets that goes by.
pub mod BracketLemmas
pub mod EncodedLemmas
pub mod LevelLemmas
pub mod ReprLemmas
pub mod ShapeLemmas
pub mod SpaceLemmas
pub mod StringLemmas
pub mod TokenLemmas
pub mod WritingLemmas
