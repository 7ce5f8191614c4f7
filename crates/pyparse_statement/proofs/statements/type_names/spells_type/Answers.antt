use Rattle.std.proofs.Common.{◌∙◌}
use Rattle.pyparse_statement.proofs.Callers.Spellings.{spelt_type}
use Rattle.pyparse_statement.proofs.statements.type_names.spells_type.Goals as goal

pub returns : goal.returns
returns c = c.eq.ensures ∙ spelt_type c.args.text.now c.utf8.text
