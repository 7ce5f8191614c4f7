use Rattle.std.proofs.Common.{◌∙◌, sym}
use Rattle.pyunparse.proofs.Shapes.ValueLemmas.{first_none, first_read}
use Rattle.pyunparse.proofs.string_texts.first_text.Goals as goal

pub returns-then-is_empty : goal.returns-then-is_empty
returns-then-is_empty c = sym (first_none c.args.values.now c.is_empty.result c.is_empty.ensures c.if-is_empty.true)

pub returns : goal.returns
returns c = c.text_of.ensures
    ∙ sym (first_read c.args.values.now c.index-values-0.result c.is_empty.result c.is_empty.ensures
    c.if-is_empty.false c.index-values-0.is)
