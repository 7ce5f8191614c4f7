use Rattle.std.proofs.Common.{sym}
use Rattle.pylex_lexeme.specs.Strings.{quote_char}
use Rattle.pylex_lexeme.proofs.Strings.StringLongest.{quoted_triple, quoted_single}
use Rattle.pylex_lexeme.proofs.string.quoted.Goals as goal

pub returns-then-has_three : goal.returns-then-has_three
returns-then-has_three c = quoted_triple (quote_char c.args.quote) c.args.text.now _ _ _ (sym c.if-has_three.ensures)
    c.bump_count.ensures c.close_triple.ensures

pub returns : goal.returns
returns c = quoted_single (quote_char c.args.quote) c.args.text.now _ _ _ (sym c.if-has_three.ensures)
    c.bump_count-2.ensures c.close_single.ensures
