-- On: a module that some lines are is that of its own lines, and lines are one module at most; the
-- places of cases, the heights of forms, and the brackets of lines.
--
-- Carries: what crates above may cite.
pub use Rattle.pyunparse_text.proofs.Modules.Law.{modules_again as modules_come_back}
pub use Rattle.pyunparse_text.proofs.Modules.Low.{forms_low as forms_are_low}
pub use Rattle.pyunparse_text.proofs.Modules.High.{modules_low as modules_are_low}
pub use Rattle.pyunparse_text.proofs.Modules.Places.{cases_in_matches as cases_stand_in_matches}
pub use Rattle.pyunparse_text.proofs.Modules.FlatLines.{line_brackets as line_brackets_are_within_height}
pub use Rattle.pyunparse_text.proofs.Modules.Accepted.{one_module as lines_are_one_module, accepted_again as accepted_come_back}
