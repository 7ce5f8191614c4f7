use Rattle.std.proofs.Common.{sym, ◌∙◌}
use Rattle.std.specs.Str.{chars}
use Rattle.pytoken.proofs.values.FaultLemmas.{only_nul, no_own}
use Rattle.pytoken.proofs.values.formatted.own_fault.Goals as goal

pub returns-then-has_nul : goal.returns-then-has_nul
returns-then-has_nul c = only_nul _ (chars c.args.text.now) (sym c.in_ok-error.ensures ∙ c.in_default.is) (sym c.if-has_nul.ensures)

pub returns : goal.returns
returns c = no_own _ (chars c.args.text.now) (sym c.in_ok-error.ensures ∙ c.in_default.is) (sym c.if-has_nul.ensures)
