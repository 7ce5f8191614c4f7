use Rattle.std.proofs.Common.{sym, ◌∙◌, false}
use Rattle.std.specs.Str.{chars}
use Rattle.pytoken.proofs.values.LiteralLemmas.{text_value, body_points}
use Rattle.pytoken.proofs.values.RunLemmas.{bare_unmarked, bare_body}
use Rattle.pytoken.proofs.values.literals.string_value.Goals as goal

pub text_in-requires : goal.text_in-requires
text_in-requires c =
    body_points c.args.text.now c.new-literal.result c.inside.result c.utf8.text c.new-literal.ensures
    (c.inside.ensures ∙ bare_body c.new-literal.result (sym c.if-not-begins_bare.ensures))

pub returns : goal.returns
returns c = λ sound.
    let bare = sym c.if-not-begins_bare.ensures in
    text_value (chars c.args.text.now) c.new-literal.result c.inside.result c.in_ok-points.points false false c.new-literal.ensures
    (bare_unmarked 114 82 c.new-literal.result bare) (bare_unmarked 98 66 c.new-literal.result bare)
    (c.inside.ensures ∙ bare_body c.new-literal.result bare) (bare_unmarked 117 117 c.new-literal.result bare) c.in_ok-points.ensures
