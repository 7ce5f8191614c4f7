use Rattle.std.proofs.Common.{◌∙◌}
use Rattle.pyparse_line.proofs.Spellings.{spelt_match}
use Rattle.pyparse_line.proofs.matches.spells_match.Goals as goal

pub returns : goal.returns
returns c = c.eq.ensures ∙ spelt_match c.args.text.now c.utf8.text
