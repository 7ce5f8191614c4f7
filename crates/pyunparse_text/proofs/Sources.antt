-- The text of written lines is a source, and what its tokens are.
pub mod Bytes
pub mod Decoding
pub mod SourceLines
pub mod Clear
