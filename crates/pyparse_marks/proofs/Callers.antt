-- What other crates cite of pyparse_marks.
pub mod Places
pub mod Lines
pub mod Kept
