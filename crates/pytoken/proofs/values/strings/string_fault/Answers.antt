use Rattle.std.proofs.Common.{sym, ap, ◌∙◌}
use Rattle.std.specs.Str.{chars}
use Rattle.pytoken.specs.StringValues.{is_formatted}
use Rattle.pytoken.proofs.values.PlainLemmas.{plain_chars, plain_formatted, plain_sound}
use Rattle.pytoken.proofs.values.strings.string_fault.Goals as goal

pub returns-then-is_marked : goal.returns-then-is_marked
returns-then-is_marked c =
    sym (plain_formatted (chars c.args.text.now) (sym (ap is_formatted c.new.ensures) ∙ sym c.if-is_marked.ensures))

pub returns-then-are_plain : goal.returns-then-are_plain
returns-then-are_plain c =
    sym (plain_sound (chars c.args.text.now) (plain_chars c.args.text.now (c.are_plain.ensures c.if-are_plain.true))
    (sym (ap is_formatted c.new.ensures) ∙ sym c.if-is_marked.ensures))

pub unplain_fault-requires : goal.unplain_fault-requires
unplain_fault-requires c = sym (ap is_formatted c.new.ensures) ∙ sym c.if-is_marked.ensures
