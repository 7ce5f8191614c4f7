-- On: one terminal is a certain sign or keyword, or isn't.
--
-- Carries: what pyparse_nodes, pyparse_expr, pyparse_line cite.
pub use Rattle.pygrammar.proofs.Completeness.LevelLemmas.{first_below, first_pos, prefix_led, constant_led}
pub use Rattle.pygrammar.proofs.Completeness.LookLemmas.{op_or_not, op_is, word_or_not, word_is}
