-- What other crates cite: the laws of the slots, and names with dots between.
pub mod Law
pub mod Names
