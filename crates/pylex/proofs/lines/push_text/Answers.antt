use Rattle.std.proofs.Common.{◌≡◌, ◌++◌, length, ap, ◌∙◌, arith, drop}
use Rattle.std.specs.Str.{chars}
use Rattle.std.specs.String.{string_bytes}
use Rattle.std.proofs.lemmas.Result.{IfOk-weaker}
use Rattle.pysource.specs.Reprs.{repr_text}
use Rattle.pylex.proofs.Texts.LinesLemmas.{field_filled, following}
use Rattle.pylex.proofs.lines.push_text.Goals as goal

pub returns-clause-ok : goal.returns-clause-ok
returns-clause-ok c =
    let repr = repr_text (chars c.args.text.now) in
    let written : string_bytes c.push_repr.new.out ≡ string_bytes c.args.out.now ++ repr = c.in_ok-push_repr.ensures.ok in
    let count : c.char_count-taken.result ≡ length (chars repr) =
    c.char_count-taken.ensures.count ∙ ap (λ bs. length (chars bs)) (c.range_from.ensures.value
    ∙ (ap (drop c.len-start.result) c.as_str.ensures.value ∙ following (string_bytes c.args.out.now) repr _ _ written
    (omega (arith, c.len-start.ensures)))) in
    IfOk-weaker c.push_filling.result _ _ (λ _ filling. field_filled 15 _ repr _ _ _ written count filling) c.push_filling.ensures.ok
