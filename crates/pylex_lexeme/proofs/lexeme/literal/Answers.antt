use Rattle.std.proofs.Common.{refl}
use Rattle.pylex_lexeme.proofs.Lexemes.Union.{string_takes, string_none, some_len, no_len}
use Rattle.pylex_lexeme.proofs.lexeme.literal.Goals as goal
use Rattle.pylex_lexeme.proofs.Strings.StringLongest.{string_opens}

pub returns-then-string : goal.returns-then-string
returns-then-string c = string_takes c.args.text.now c.string.new.text (string_opens c.args.prefix_len c.args.text.now c.requires)
    (some_len _ c.if-string.ensures.found) (c.if-string.ensures.rest refl)

pub returns : goal.returns
returns c = rw c.again-start.ensures (string_none c.args.text.now (string_opens c.args.prefix_len c.args.text.now c.requires)
    (no_len _ c.if-string.ensures.found))
