use Rattle.std.proofs.Common.{sym, ◌∙◌, ap}
use Rattle.pylex_lexeme.specs.Chars.{begins}
use Rattle.pylex_lexeme.specs.Inner.Frequent.{is_quote_or_wide}
use Rattle.pylex_lexeme.proofs.Fronts.Runs.{neither_first}
use Rattle.pylex_lexeme.proofs.scanner.Scanner.has_quote_or_wide.Goals as goal

pub returns : goal.returns
returns c = λ e.
    sym (ap (begins is_quote_or_wide) c.self.view_is)
    ∙ neither_first c.self.inside.rest.now c.self.invariant
    (sym (c.begins_quote_or_wide.ensures ∙ ap (begins is_quote_or_wide) c.as_bytes.ensures.value) ∙ e)
