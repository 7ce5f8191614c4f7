use Rattle.std.proofs.Common.{rules, ◌≡◌, ◌++◌, length, sym, ap, ◌∙◌}
use Rattle.std.specs.Str.{chars}
use Rattle.std.specs.String.{string_bytes}
use Rattle.std.proofs.lemmas.Result.{on_ok_weaker}
use Rattle.pylex_lexeme.specs.Operators.{exact_name}
use Rattle.pylex.proofs.Texts.LinesLemmas.{exact_characters, field_filled}
use Rattle.pylex.proofs.lines.push_operator.Goals as goal

pub returns-clause-ok : goal.returns-clause-ok
returns-clause-ok c =
    let name = exact_name c.args.operator in
    let written : string_bytes c.push_str.new.self ≡ string_bytes c.args.out.now ++ name = search rules in
    let count : length c.name-name.result.now ≡ length (chars name) = ap length c.name-name.ensures
    ∙ sym (exact_characters c.args.operator) in
    on_ok_weaker c.push_filling.result (λ filling. field_filled 15 _ name _ _ _ written count filling) c.push_filling.ensures.ok
