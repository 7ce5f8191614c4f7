-- Worked trees that fit, and such that don't.
pub mod Strings
