pub mod EntryHeights
pub mod FieldHeights
