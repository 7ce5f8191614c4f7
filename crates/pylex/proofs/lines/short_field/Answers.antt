use Rattle.std.proofs.Common.{◌≡◌, true, sym, subst, ap, ◌∙◌}
use Rattle.std.specs.List.{list_all}
use Rattle.std.specs.Str.{IsAscii}
use Rattle.pysource.specs.Reprs.{is_plain}
use Rattle.pylex.proofs.Texts.LinesLemmas.{short_field, filled_plain_ascii}
use Rattle.pylex.proofs.lines.short_field.Goals as goal

pub returns-clause-ascii : goal.returns-clause-ascii
returns-clause-ascii c =
    let text = c.args.text.now in
    let same = c.copy_plain.ensures.copied c.if-not-copy_plain.false ∙ c.as_bytes.ensures.value in
    let plain : list_all is_plain text ≡ true = sym (ap (list_all is_plain) c.as_bytes.ensures.value)
    ∙ c.copy_plain.ensures.plain c.if-not-copy_plain.false in
    subst IsAscii (sym (short_field text _ plain c.requires same)) (filled_plain_ascii text plain c.requires)

pub returns-clause-field : goal.returns-clause-field
returns-clause-field c =
    let text = c.args.text.now in
    let same = c.copy_plain.ensures.copied c.if-not-copy_plain.false ∙ c.as_bytes.ensures.value in
    let plain : list_all is_plain text ≡ true = sym (ap (list_all is_plain) c.as_bytes.ensures.value)
    ∙ c.copy_plain.ensures.plain c.if-not-copy_plain.false in
    short_field text _ plain c.requires same
