-- A lister that reads line by line: what it finds in the lines that it
-- holds it finds in the source.
pub mod Carried
pub mod HeldLinesLemmas
pub mod Lined
pub mod Streaming
pub mod Reading
pub mod Awaiting
pub mod Searching
pub mod Stepping
pub mod Steppings
pub mod Beginning
pub mod Following
pub mod Adding
pub mod LexedOn
pub mod AheadOn
pub mod JoinedOn
