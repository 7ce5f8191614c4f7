-- What fits, the grammar gives.
pub mod Places
pub mod Making
pub mod Calls
pub mod Strings
pub mod Parameters
pub mod Gives
pub mod PatternValues
pub mod PatternGives
pub mod FormGives
pub mod LinePlaces
pub mod BlockGives
