use Rattle.std.proofs.Common.{◌∙◌}
use Rattle.pyparse_expr.proofs.Recorders.Strings.{text_none, text_some}
use Rattle.pyparse_expr.proofs.strings.record_text.Goals as goal

pub returns-then-is_empty : goal.returns-then-is_empty
returns-then-is_empty g c = λ whole a. text_none whole c.args.values.now.text c.as_slice.result.now c.is_empty.result c.is_empty.ensures
    c.if-is_empty.true c.as_slice.ensures.value

pub returns : goal.returns
returns g c = λ whole a. text_some whole c.args.values.now.text c.as_slice.result.now c.is_empty.result c.is_empty.ensures
    c.if-is_empty.false c.as_slice.ensures.value (c.in_ok-node.ensures ∙ a.is _)
