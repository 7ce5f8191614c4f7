use Rattle.std.proofs.Common.{sym, ap, ◌∙◌}
use Rattle.std.specs.Str.{chars}
use Rattle.pylex_lexeme.specs.Strings.{begins_three}
use Rattle.pytoken.specs.StringValues.{without_last}
use Rattle.pytoken.proofs.values.BodyLemmas.{body_three, body_one}
use Rattle.pytoken.proofs.values.bodies.body.Goals as goal

pub returns-then-has_three : goal.returns-then-has_three
returns-then-has_three c =
    c.without_last.ensures ∙ ap (without_last 3) c.after_opening.ensures
    ∙ body_three (chars c.args.text.now) (sym (ap begins_three c.following_prefix.ensures) ∙ sym c.has_three.ensures
    ∙ c.if-has_three.true)

pub returns : goal.returns
returns c =
    c.without_last-2.ensures ∙ ap (without_last 1) c.after_opening-2.ensures
    ∙ body_one (chars c.args.text.now) (sym (ap begins_three c.following_prefix.ensures) ∙ sym c.has_three.ensures
    ∙ c.if-has_three.false)
