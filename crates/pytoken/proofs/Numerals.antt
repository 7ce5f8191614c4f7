pub mod DigitRuns
pub mod Parts
pub mod Layouts
pub mod WholeTexts
pub mod Characters
pub mod Ends
pub mod Lexemes
pub mod Standing
