-- What pyparse_line cites.
pub mod Looks
pub mod Parts
pub mod Spellings
