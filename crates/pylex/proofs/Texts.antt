-- Texts that are read and written: lines, fields, cursors.
pub mod LinesLemmas
pub mod CursorLemmas
pub mod LastLines
pub mod Plain
pub mod Spaces
