-- What callers cite of the literals of a string. Declares nothing.
pub use Rattle.pygrammar.proofs.Soundness.SoundStrings.{text_is, field_is, literal_is, value_is}
