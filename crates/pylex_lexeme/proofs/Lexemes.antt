-- The longest lexeme of all classes, and the class of a text.
pub mod Classes
pub mod Union
pub mod OperatorLengths
pub mod OperatorTexts
pub mod Seconds
pub mod Cutting
pub mod Delimiters
pub mod Signs
pub mod AsciiRuns
