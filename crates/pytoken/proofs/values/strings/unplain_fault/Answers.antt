use Rattle.std.proofs.Common.{◌≡◌, Bool, true, false, sym, ap, subst, ◌∙◌}
use Rattle.std.specs.Str.{chars}
use Rattle.pytoken.specs.StringValues.{is_bytes}
use Rattle.pytoken.specs.Inner.Readings.{is_calm}
use Rattle.pytoken.proofs.values.PlainLemmas.{any_fault}
use Rattle.pytoken.proofs.values.CalmLemmas.{calm_sound}
use Rattle.pytoken.proofs.values.strings.unplain_fault.Goals as goal

pub returns-then-is_calm : goal.returns-then-is_calm
returns-then-is_calm c =
    let bytes = c.is_marked.ensures ∙ ap is_bytes c.new-literal.ensures in
    sym (calm_sound (chars c.args.text.now)
    (subst (λ (b : Bool). is_calm b false (chars c.args.text.now) ≡ true) bytes (sym c.if-is_calm.ensures)) c.requires)

pub returns : goal.returns
returns c = c.literal_fault.ensures ∙ any_fault (chars c.args.text.now) c.new-literal.result c.new-literal.ensures
