-- The laws of cuts, and the cut as a function.
-- Carries: pieces. On: Lawful, Cutting.
pub use Rattle.pyfstring.proofs.Cutting.{cut_of_sound, cut_of_complete}
pub use Rattle.pyfstring.proofs.Lawful.{cuts_are_lawful}
