use Rattle.std.proofs.Common.{sym, ◌∙◌}
use Rattle.pytoken.proofs.Words.{keyword_chars}
use Rattle.pytoken.proofs.keywords.Keyword.of.Goals as goal

pub returns-then-not-may_be_keyword : goal.returns-then-not-may_be_keyword
returns-then-not-may_be_keyword c =
    sym (keyword_chars c.args.text.now c.utf8.text ∙ c.may_be_keyword.ensures c.if-not-may_be_keyword.true)

pub returns : goal.returns
returns c = c.spelled.ensures ∙ sym (keyword_chars c.args.text.now c.utf8.text)
