-- What callers cite of places and the line feeds of a text. Cited by pylex.
pub use Rattle.pysource.proofs.Offsets.CharPlaces.{place_by_bytes}
