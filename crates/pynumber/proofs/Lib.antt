pub mod Callers
mod LimbPlaces
mod DigitPlaces
mod Underscores
mod Beside
mod Decoding
mod Lawful
mod Numerals
mod Picking
mod Places
mod ReadBack
mod Readings
mod Searching
mod Shorter
