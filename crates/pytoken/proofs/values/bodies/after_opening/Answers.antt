use Rattle.std.proofs.Common.{sym, ap, ◌∙◌, drop}
use Rattle.std.specs.Str.{chars}
use Rattle.pylex_lexeme.specs.Strings.{begins_three}
use Rattle.pytoken.proofs.values.BodyLemmas.{opening_three, opening_one}
use Rattle.pytoken.proofs.values.bodies.after_opening.Goals as goal

pub returns-then-has_three : goal.returns-then-has_three
returns-then-has_three c =
    c.following.ensures ∙ ap (drop 3) c.following_prefix-opened.ensures
    ∙ opening_three (chars c.args.text.now) (sym (ap begins_three c.following_prefix-opened.ensures) ∙ sym c.has_three.ensures
    ∙ c.if-has_three.true)

pub returns : goal.returns
returns c =
    c.following-2.ensures ∙ ap (drop 1) c.following_prefix-opened.ensures
    ∙ opening_one (chars c.args.text.now) (sym (ap begins_three c.following_prefix-opened.ensures) ∙ sym c.has_three.ensures
    ∙ c.if-has_three.false)
