-- What other crates cite: the laws of the grammar, of patterns and of sources; the reader within a
-- height, level by level; lines within a height; what one terminal is; heights of targets; lines
-- one by one, and the depths that they reach; the literals of a string; and which f-strings are open
-- after lists.
pub mod Law
pub mod Steps
pub mod Lines
pub mod Terminals
pub mod Entries
pub mod Blocks
pub mod SourceLaw
pub mod PatternLaw
pub mod OpenStrings
pub mod Strings
