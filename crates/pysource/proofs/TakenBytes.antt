-- What reads take, and the bytes that are held.
pub mod ByteLemmas
pub mod BufferLemmas
pub mod TakingLemmas
