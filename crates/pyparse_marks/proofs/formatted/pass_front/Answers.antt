use Rattle.std.proofs.Common.{◌∙◌}
use Rattle.std.specs.Prelude.{option_map}
use Rattle.std.specs.Str.{chars}
use Rattle.pyfstring.specs.Parts.{text_of}
use Rattle.pyparse_marks.specs.TokenSpans.{past_expression, past_conversion}
use Rattle.pyparse_marks.specs.Inner.Walking.{around_of}
use Rattle.pyparse_marks.proofs.PartLemmas.{front_is}
use Rattle.pyparse_marks.proofs.PassLemmas.{then_goes}
use Rattle.pyparse_marks.proofs.formatted.pass_front.Goals as goal

pub returns : goal.returns
returns g c =
    let a = around_of c.args.around.now in
    then_goes c.pass_conversion.result (past_conversion a) c.pass_conversion.new.walker c.move_to.new.self _
    c.pass_conversion.ensures (c.move_to.ensures
    ∙ front_is (past_expression g.T.Tokens.past) a (option_map text_of c.args.kept) (chars c.args.text.now) c.at.result c.in_ok-begin.begin
    c.source_len.result c.in_ok-end.end c.args.walker.now c.put_kept.new.walker c.put.new.self c.pass_expression.new.walker c.at.ensures
    c.in_ok-begin.ensures c.source_len.ensures c.in_ok-end.ensures
    c.in_ok-put_kept.ensures c.in_ok-put.ensures c.in_ok-pass_expression.ensures)
