-- What other crates cite of pyfstring.
pub mod Law
