use Rattle.std.proofs.Common.{◌≡◌, ◌∷◌, [], map, ap, sym, List, ◌++◌, ◌+◌, false, ◌∙◌}
use Rattle.std.proofs.lemmas.List.{map-append}
use Rattle.std.specs.Str.{chars}
use Rattle.pytoken.specs.FormattedStrings.{is_fstring}
use Rattle.pyparse_marks.specs.Spans.{Span, span, told}
use Rattle.pyparse_marks.proofs.MarkLemmas.{single_spans}
use Rattle.pyparse_marks.proofs.marks.push_token.Goals as goal

pub returns : goal.returns
returns c =
    let none : is_fstring c.args.kind (chars c.args.text.now) ≡ false = sym c.is_fstring.ensures ∙ c.if-is_fstring.false in
    ap (map told) c.in_ok-push.ensures.items ∙ map-append told c.args.spans.now.items (c.in_ok-span.field-0 ∷ [])
    ∙ ap (λ (s : Span). map told c.args.spans.now.items ++ s ∷ []) (c.in_ok-span.ensures
    ∙ ap (span c.args.from) (c.in_ok-to.ensures ∙ ap (λ n. c.args.from + n) c.len.ensures))
    ∙ ap (λ (xs : List Span). map told c.args.spans.now.items ++ xs)
    (sym (single_spans c.args.from c.args.kind (chars c.args.text.now) none))
