-- What passes in the fields of a tree.
pub mod Standing
pub mod Closings
pub mod LineClosings
pub mod Tests
pub mod Strings
pub mod Levels
pub mod Entries
pub mod TargetShapes
pub mod Arranging
pub mod AsSpelled
pub mod Dots
pub mod PatternFields
