use Rattle.std.proofs.Common.{◌≡◌, List, ℕ, [], ◌∷◌, ◌++◌, map, subst}
use Rattle.std.specs.Prelude.{OnOk}
use Rattle.pytoken.specs.Tokens.{Token}
use Rattle.pyparse_tokens.specs.Answers.{token_of}
use Rattle.pyparse_tokens.proofs.gather.push_entry.Goals as goal

pub returns : goal.returns
returns c =
    let token : List ℕ → Token = λ t. record { kind = c.args.entry.now.kind; start = c.args.entry.now.start; text = t } in
    subst (λ (t : List ℕ). OnOk c.push.result (map token_of c.push.new.tokens.items ≡ map token_of c.args.tokens.now.items ++ token t ∷ []))
    c.text_of.ensures c.push.ensures
