mod Offsets
mod Printing
mod LineReading
mod FaultyLines
mod Examples
mod TakenBytes
pub mod Callers
