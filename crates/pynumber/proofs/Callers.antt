pub mod Decimals
-- What other crates cite of pyfloat.
pub mod Law
