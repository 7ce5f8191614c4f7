use Rattle.std.proofs.Common.{sym, ◌∙◌}
use Rattle.pytoken.proofs.values.RunLemmas.{bare_some, bare_none}
use Rattle.pytoken.proofs.values.strings.begins_bare.Goals as goal

pub returns-in-Some : goal.returns-in-Some
returns-in-Some c = c.is_quote.ensures ∙ bare_some c.args.literal.now c.in-Some.c (sym c.first.ensures ∙ c.in-Some.is)

pub returns-in-None : goal.returns-in-None
returns-in-None c = bare_none c.args.literal.now (sym c.first.ensures ∙ c.in-None.is)
