-- The open levels, and the layout of a line by its width.
pub mod Layouts
pub mod Tops
pub mod OpenLevels
pub mod LevelLemmas
pub mod GroundLevels
pub mod MarginLemmas
