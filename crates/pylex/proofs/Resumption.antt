-- A lister goes on from a cursor as if it had listed all before.
pub mod Resume
pub mod Resumed
pub mod Ahead
pub mod Resuming
pub mod Points
pub mod Passing
pub mod Agreement
pub mod Cursoring
pub mod CursorBounds
pub mod Skips
pub mod Returning
