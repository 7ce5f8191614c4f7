-- What callers cite of readers, writers, and the bytes that these take. Cited by pyast_command,
-- pyast_fault, pylex, uses.
pub use Rattle.pysource.proofs.TakenBytes.ByteLemmas.{Appends-append, Appends-refl, TakesFront-after, TakesFront-done}
pub use Rattle.pysource.proofs.TakenBytes.TakingLemmas.{ReadsBytes-none, ReadsBytes-on, was_reading}
