pub mod Progressing
pub mod Reading
pub mod PlacedLines
