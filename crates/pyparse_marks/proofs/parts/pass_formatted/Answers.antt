use Rattle.std.specs.Str.{chars}
use Rattle.pyparse_marks.specs.TokenSpans.{past_expression, past_formatted, opening_len, parts_of}
use Rattle.pyparse_marks.proofs.PartLemmas.{formatted_is}
use Rattle.pyparse_marks.proofs.parts.pass_formatted.Goals as goal

pub returns : goal.returns
unfolding past_formatted
returns g c =
    let t = chars c.args.text.now in
    formatted_is (past_expression g.T.Tokens.past) (opening_len t) (parts_of c.args.is_nested t) c.args.text.now c.in_ok-whole.whole
    c.at-start.result c.in_ok-stop.stop c.len.result c.args.walker.now c.pass_cut.new.walker c.move_to.new.self c.utf8.text
    c.at-start.ensures c.len.ensures c.in_ok-stop.ensures c.in_ok-whole.ensures
    c.in_ok-pass_cut.ensures c.move_to.ensures
