-- The longest string, its prefix and its quotes.
pub mod Units
pub mod Triples
pub mod PlainRuns
pub mod StringBest
pub mod StringLongest
pub mod Prefixes
pub mod OpenStrings
