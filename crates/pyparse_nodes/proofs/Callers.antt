-- What callers compute with: the first terminal of a place.
pub mod Places
-- What callers compute with: lists that grow by one.
pub mod Pushes
