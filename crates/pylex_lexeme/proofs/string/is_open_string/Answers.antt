use Rattle.std.proofs.Common.{◌∙◌}
use Rattle.std.specs.Str.{chars}
use Rattle.pylex_lexeme.proofs.WholeLines.OpenLiterals.{open_is}
use Rattle.pylex_lexeme.proofs.string.is_open_string.Goals as goal

pub returns : goal.returns
returns c = c.is_some.ensures ∙ open_is c.open_literal.result (chars c.args.text.now) c.open_literal.ensures.some
    c.open_literal.ensures.none
