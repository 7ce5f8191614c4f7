use Rattle.std.proofs.Common.{◌∙◌}
use Rattle.pyparse_line.proofs.Spellings.{spelt_case}
use Rattle.pyparse_line.proofs.cases.spells_case.Goals as goal

pub returns : goal.returns
returns c = c.eq.ensures ∙ spelt_case c.args.text.now c.utf8.text
