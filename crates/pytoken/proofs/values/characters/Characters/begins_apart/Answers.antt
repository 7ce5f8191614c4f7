use Rattle.std.proofs.Common.{List, ℕ, sym, ap, subst, ◌∙◌}
use Rattle.std.specs.Str.{chars, IsUtf8}
use Rattle.pylex_lexeme.specs.Strings.{begins_three}
use Rattle.pytoken.specs.StringValues.{with_line_feeds}
use Rattle.pytoken.proofs.values.OwnLemmas.{own_apart}
use Rattle.pytoken.proofs.values.characters.Characters.begins_apart.Goals as goal

pub returns-in-len2-up : goal.returns-in-len2-up
returns-in-len2-up c = λ is.
    let bytes = c.as_bytes.ensures.value in
    ap begins_three (sym c.self.view_is ∙ ap (λ (t : List ℕ). with_line_feeds (chars t)) (sym bytes))
    ∙ own_apart c.as_bytes.result.now (subst IsUtf8 (sym bytes) c.self.invariant) c.in-len2-up.len_at_least (sym c.are_apart.ensures ∙ is)
