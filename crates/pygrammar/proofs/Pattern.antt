-- The grammar of patterns and its reader.
pub mod Values
pub mod Sizes
pub mod Bound
pub mod SoundValues
pub mod SoundLists
pub mod Sound
pub mod Ends
pub mod ReadValues
pub mod ReadLevels
pub mod ReadEntries
pub mod ReadBrackets
pub mod Complete
pub mod Keeps
pub mod Long
pub mod Law
