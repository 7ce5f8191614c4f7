use Rattle.pyunparse_text.proofs.Texts.BracketLemmas.{not_brackets, one_brackets}
use Rattle.pyunparse_text.proofs.line_brackets.need_brackets.Goals as goal

pub returns-then-count-ne1 : goal.returns-then-count-ne1
returns-then-count-ne1 c = not_brackets c.args.items.now c.if-count-ne1.true

pub returns : goal.returns
returns c = one_brackets c.args.items.now _ _ _ c.if-count-ne1.false c.index-items-0.is c.is_none.ensures c.is_bare_tuple.ensures
