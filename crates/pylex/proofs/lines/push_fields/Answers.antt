use Rattle.std.proofs.Common.{◌++◌, ◌∙◌, ap, sym}
use Rattle.std.specs.Prelude.{codes}
use Rattle.std.specs.Str.{chars}
use Rattle.std.specs.String.{string_bytes}
use Rattle.std.proofs.lemmas.List.{append_assoc}
use Rattle.std.proofs.lemmas.Result.{on_ok_weaker}
use Rattle.pysource.specs.Reprs.{repr_text}
use Rattle.pylex_listing.specs.ListingLines.{filled, shown_name, shown_range}
use Rattle.pylex.proofs.Texts.LinesLemmas.{three_parts}
use Rattle.pylex.proofs.lines.push_fields.Goals as goal

pub returns-clause-ok : goal.returns-clause-ok
returns-clause-ok c =
    let old = string_bytes c.args.out.now in
    let range = filled 20 (shown_range c.args.entry.now) in
    let name = filled 15 (shown_name c.args.exact c.args.entry.now) in
    let text = filled 15 (repr_text (chars c.args.text.now)) in
    on_ok_weaker c.push_end.result
    (λ pushed. three_parts old range name (text ++ codes "\n") _ _ _ c.in_ok-push_range.ensures.ok c.in_ok-push_name.ensures.ok pushed
    ∙ ap (λ bs. old ++ bs) (sym (append_assoc (range ++ name) text (codes "\n"))))
    c.push_end.ensures.ok
