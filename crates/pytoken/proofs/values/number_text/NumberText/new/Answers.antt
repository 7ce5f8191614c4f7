use Rattle.std.proofs.Common.{sym, ◌∙◌}
use Rattle.pytoken.proofs.NumberKinds.{whole_faultless}
use Rattle.pytoken.proofs.values.number_text.NumberText.new.Goals as goal

pub invariant_of-result : goal.invariant_of-result
invariant_of-result c =
    record { faultless = whole_faultless c.args.extent c.args.text.now (sym c.in_ok-error.ensures ∙ c.in-None.is) }
