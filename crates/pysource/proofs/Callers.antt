-- What other crates cite of pysource.
pub mod Coming
pub mod Faults
pub mod Places
pub mod Printing
pub mod Taken
