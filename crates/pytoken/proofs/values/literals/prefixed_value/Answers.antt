use Rattle.std.specs.Str.{chars}
use Rattle.pytoken.proofs.values.LiteralLemmas.{bytes_value, text_value, body_points}
use Rattle.pytoken.proofs.values.literals.prefixed_value.Goals as goal

pub returns-then-is_marked : goal.returns-then-is_marked
returns-then-is_marked c =
    bytes_value (chars c.args.text.now) c.new-literal.result c.body.result c.in_ok-bytes.bytes.items c.is_marked-raw.result
    c.new-literal.ensures c.is_marked-raw.ensures c.if-is_marked.ensures c.body.ensures c.in_ok-bytes.ensures

pub text_in-requires : goal.text_in-requires
text_in-requires c = body_points c.args.text.now c.new-literal.result c.body-2.result c.utf8.text c.new-literal.ensures c.body-2.ensures

pub returns : goal.returns
returns c = λ sound.
    text_value (chars c.args.text.now) c.new-literal.result c.body-2.result c.in_ok-points.points c.is_marked-raw.result
    c.is_marked-unicode.result
    c.new-literal.ensures c.is_marked-raw.ensures c.if-is_marked.ensures c.body-2.ensures c.is_marked-unicode.ensures
    c.in_ok-points.ensures
