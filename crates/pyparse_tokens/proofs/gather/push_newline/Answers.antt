use Rattle.std.proofs.Common.{◌≡◌, [], ◌∷◌, ◌++◌, map, ap, subst, ◌∙◌}
use Rattle.std.specs.Prelude.{OnOk}
use Rattle.std.specs.Str.{chars}
use Rattle.pytoken.specs.Tokens.{Token, supplied}
use Rattle.pyparse_tokens.specs.Answers.{token_of}
use Rattle.pyparse_tokens.proofs.GatherLemmas.{supplied_at}
use Rattle.pyparse_tokens.proofs.gather.push_newline.Goals as goal

pub returns : goal.returns
returns c =
    let same = supplied_at c.text-text.result.now c.place_of.result c.place_of.ensures ∙ ap supplied (ap chars c.text-text.ensures.value) in
    subst (λ (t : Token). OnOk c.push.result (map token_of c.push.new.tokens.items ≡ map token_of c.args.tokens.now.items ++ t ∷ [])) same
    c.push.ensures
