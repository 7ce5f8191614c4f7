-- What callers cite of spots. Cited by pyparse_tokens.
pub use Rattle.pylex.proofs.SpotSteps.Going.{Goes, step_goes, spot_room, spot_boundary, spot_leads}
