use Rattle.std.proofs.Common.{rules, ◌≡◌, ◌++◌, ◌+◌, [], ◌∷◌, length, sym, ap, ◌∙◌}
use Rattle.std.specs.Str.{chars}
use Rattle.std.specs.String.{string_bytes}
use Rattle.std.proofs.Transfers.{starts_with_of_append, starts_with_trans}
use Rattle.std.proofs.lemmas.Result.{on_ok_weaker}
use Rattle.pysource.specs.Reprs.{repr_text}
use Rattle.pysource.proofs.Callers.Printing.{plain_repr, plain_repr_characters}
use Rattle.pylex.proofs.Texts.LinesLemmas.{field_filled, three_parts}
use Rattle.pylex.proofs.lines.push_plain.Goals as goal

pub returns-clause-ok : goal.returns-clause-ok
returns-clause-ok c =
    let old = string_bytes c.args.out.now in
    let text = c.args.text.now in
    let repr = repr_text (chars text) in
    let begun : string_bytes c.push.new.self ≡ old ++ 39 ∷ [] = search rules in
    let inside : string_bytes c.push_str.new.self ≡ string_bytes c.push.new.self ++ text = search rules in
    let close : string_bytes c.push-2.new.self ≡ string_bytes c.push_str.new.self ++ 39 ∷ [] = search rules in
    let shown = plain_repr text c.requires in
    let written : string_bytes c.push-2.new.self ≡ old ++ repr = three_parts old (39 ∷ []) text (39 ∷ []) _ _ _ begun inside close
    ∙ ap (λ bs. old ++ bs) (sym shown) in
    let count : length text + 2 ≡ length (chars repr) = sym (ap (λ bs. length (chars bs)) shown ∙ plain_repr_characters text c.requires) in
    on_ok_weaker c.push_filling.result (λ filling. field_filled 15 _ repr _ _ _ written count filling) c.push_filling.ensures.ok

pub returns-clause-kept : goal.returns-clause-kept
returns-clause-kept c =
    let old = string_bytes c.args.out.now in
    let begun : string_bytes c.push.new.self ≡ old ++ 39 ∷ [] = search rules in
    let inside : string_bytes c.push_str.new.self ≡ string_bytes c.push.new.self ++ c.args.text.now = search rules in
    let close : string_bytes c.push-2.new.self ≡ string_bytes c.push_str.new.self ++ 39 ∷ [] = search rules in
    starts_with_trans _ _ _ c.push_filling.ensures.kept
    (starts_with_of_append _ old _ (three_parts old (39 ∷ []) c.args.text.now (39 ∷ []) _ _ _ begun inside close))
