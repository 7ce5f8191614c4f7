-- A piece is the lexeme at the front of the text from it on.
pub mod Fronts
pub mod NameFronts
pub mod NumberParts
pub mod NumberFronts
pub mod OperatorFronts
pub mod StringFronts
pub mod PieceFronts
pub mod LineCuts
