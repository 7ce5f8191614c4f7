use Rattle.std.proofs.Common.{sym, ap, ◌∙◌}
use Rattle.std.specs.List.{list_all}
use Rattle.pytoken.specs.Inner.Readings.{is_plain}
use Rattle.pytoken.proofs.values.ClearLemmas.{all_clear}
use Rattle.pytoken.proofs.values.strings.are_plain.Goals as goal

pub returns : goal.returns
returns c = λ is.
    ap (list_all is_plain) (sym c.as_bytes.ensures.value) ∙ all_clear 92 0 c.as_bytes.result.now (c.are_clear.ensures is)
