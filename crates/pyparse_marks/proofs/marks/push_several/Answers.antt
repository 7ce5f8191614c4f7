use Rattle.std.proofs.Common.{map, ap, List, ◌++◌, ◌∙◌}
use Rattle.std.proofs.lemmas.List.{map-append}
use Rattle.std.specs.Str.{chars}
use Rattle.pyparse_marks.specs.Spans.{Span, told}
use Rattle.pyparse_marks.specs.TokenSpans.{Walk, past_token, token_spans}
use Rattle.pyparse_marks.proofs.marks.push_several.Goals as goal

pub returns : goal.returns
unfolding token_spans
returns c =
    ap (map told) c.in_ok-extend_from_slice.ensures.items ∙ map-append told c.args.spans.now.items c.spans.result.now
    ∙ ap (λ (ys : List Span). map told c.args.spans.now.items ++ ys) (c.spans.ensures
    ∙ ap (λ (w : Walk). w.spans) (c.in_ok-pass_token.ensures
    ∙ ap (past_token c.args.kind (chars c.args.text.now)) c.new-walker.ensures))
