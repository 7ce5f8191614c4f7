-- On: the reader within a height, one level of it.
--
-- Carries: what pyparse_expr cites.
pub use Rattle.pygrammar.proofs.Completeness.Atoms.{close_shape, close_two, close_after}
pub use Rattle.pygrammar.proofs.Completeness.Comps.{both_some}
pub use Rattle.pygrammar.proofs.Soundness.SoundClimb.{same_left, raise_is, same_signed, awaits_is}
pub use Rattle.pygrammar.proofs.Heights.Contract.{unroll_capped}
