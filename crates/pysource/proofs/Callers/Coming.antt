-- What callers cite of the lines that are still to come. Cited by pylex.
pub use Rattle.pysource.proofs.LineReading.MayComeLemmas.{may_come, only_given}
