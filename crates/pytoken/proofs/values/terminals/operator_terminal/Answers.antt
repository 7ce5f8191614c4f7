use Rattle.std.proofs.Common.{sym, ◌∙◌}
use Rattle.std.specs.Str.{chars}
use Rattle.pytoken.proofs.values.TerminalLemmas.{of_some, of_none}
use Rattle.pytoken.proofs.values.terminals.operator_terminal.Goals as goal

pub returns-in-Some : goal.returns-in-Some
returns-in-Some c = of_some (chars c.args.text.now) c.in-Some.exact (sym c.exact_of.ensures ∙ c.in-Some.is)

pub returns-in-None : goal.returns-in-None
returns-in-None c = of_none (chars c.args.text.now) (sym c.exact_of.ensures ∙ c.in-None.is)
