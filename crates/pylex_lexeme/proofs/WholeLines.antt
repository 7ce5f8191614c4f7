-- The first lexeme of some whole lines, whatever follows them.
pub mod InLine
pub mod OneLine
pub mod LinedUnits
pub mod LineFronts
pub mod Kept
pub mod Lengthened
pub mod OpenLiterals
