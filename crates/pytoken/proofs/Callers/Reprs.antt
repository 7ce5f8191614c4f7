-- On: what a repr writes for a point is read as that point.
--
-- Carries: what the texts of f-strings need, which are written character by character.
pub use Rattle.pytoken.proofs.ReadBack.{Written, marked, tab, feed, return, short, middle, long, itself, written, Fits, reads_back}
