use Rattle.std.proofs.Common.{◌∙◌, ap}
use Rattle.pylex_lexeme.specs.Strings.{opens_string}
use Rattle.pylex_lexeme.proofs.Strings.OpenStrings.{opens_by}
use Rattle.pylex_lexeme.proofs.string.opens_string.Goals as goal

pub returns : goal.returns
returns c = c.is_some.ensures ∙ opens_by c.opening.result c.new.result c.opening.ensures.some c.opening.ensures.none
    ∙ ap opens_string c.new.ensures
