pub mod Callers
mod Answers
mod Completeness
mod Related
mod Heights
mod Depths
mod Soundness
mod Worked
mod Line
mod Block
mod Plain
mod Pattern
mod Opened
