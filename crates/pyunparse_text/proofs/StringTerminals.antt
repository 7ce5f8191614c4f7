-- What the terminals of an f-string are that has no fault: its fields, their tokens, and the brackets of these.
pub mod Elements
pub mod Faultless
pub mod Classes
pub mod FieldCharacters
pub mod FieldLexemes
pub mod Brackets
pub mod Scanned
pub mod Bodies
