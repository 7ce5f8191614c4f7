-- The longest front of a text that passes a test.
pub mod Texts
pub mod Runs
pub mod NameBytes
pub mod Longest
pub mod Best
pub mod Joined
pub mod Taking
pub mod Tables
