use Rattle.std.proofs.Common.{map, sym, ap, ◌∙◌}
use Rattle.std.specs.Str.{chars}
use Rattle.pyfstring.specs.Parts.{body_parts, part_of, spec_parts}
use Rattle.pyparse_marks.specs.TokenSpans.{further, opening_len, past_cut, past_expression, past_body_parts}
use Rattle.pyparse_marks.specs.Inner.Walking.{around_of}
use Rattle.pyparse_marks.proofs.PartLemmas.{parts_cut, no_parts, cut_passed}
use Rattle.pyparse_marks.proofs.parts.pass_cut.Goals as goal

pub returns-in_ok-pass_pieces-in-Ok : goal.returns-in_ok-pass_pieces-in-Ok
returns-in_ok-pass_pieces-in-Ok g c =
    let a = around_of c.args.around.now in
    let t = chars c.args.around.now.text.now in
    let parts = body_parts c.in-Ok.pieces in
    let cut = parts_cut c.args.is_nested c.is_raw-is_raw.result t (chars c.body.result.now) parts c.is_raw-is_raw.ensures
    c.body.ensures c.in-Ok.ensures.cut in
    cut_passed c.put-in-Ok.result (past_expression g.T.Tokens.past) a (opening_len t) c.args.is_nested t parts c.args.walker.now
    c.put.new.self c.go_on.new.self c.pass_pieces.new.walker c.put-in-Ok.new.self cut c.in_ok-put-in-Ok.ensures
    (c.in_ok-go_on-in-Ok.ensures ∙ ap (λ n. further n c.put.new.self) c.opening_len.ensures)
    (c.in_ok-pass_pieces-in-Ok.ensures
    ∙ ap (λ xs. past_body_parts (past_expression g.T.Tokens.past) a (map (part_of spec_parts) xs) c.go_on.new.self) c.deref.ensures.value)
    c.put-in-Ok.ensures

pub returns-in-Err-Malformed : goal.returns-in-Err-Malformed
returns-in-Err-Malformed g c =
    let a = around_of c.args.around.now in
    let t = chars c.args.around.now.text.now in
    sym (ap (λ o. past_cut (past_expression g.T.Tokens.past) a (opening_len t) o c.args.walker.now)
    (no_parts c.args.is_nested c.is_raw-is_raw.result t (chars c.body.result.now) c.is_raw-is_raw.ensures c.body.ensures
    (rw c.in-Err-Malformed.field-0-is at c.in-Err-Malformed.ensures.malformed)))
