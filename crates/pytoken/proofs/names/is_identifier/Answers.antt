use Rattle.std.proofs.Common.{◌≡◌, sym, ap, ◌∙◌, List, ℕ, length, ◌++◌}
use Rattle.std.specs.Char.{encode_utf8}
use Rattle.pytoken.proofs.Callers.TextLemmas.{Past, past, no_chars}
use Rattle.pytoken.proofs.NameLemmas.{spelled, empty}
use Rattle.pytoken.proofs.names.is_identifier.Goals as goal

pub returns-in_default : goal.returns-in_default
returns-in_default c =
    empty c.args.text.now (no_chars c.args.text.now (ap length (sym c.chars-left.ensures.rest) ∙ c.in_default.ensures.steps.0.0))

pub returns : goal.returns
returns c =
    let cut : c.args.text.now ≡ encode_utf8 c.in-Some.first ++ c.as_str.result.now = sym c.chars-left.ensures.rest
    ∙ c.in-Some.ensures.steps.0
    ∙ ap (λ (t : List ℕ). encode_utf8 c.in-Some.first ++ t) (sym c.as_str.ensures) in
    let front : Past c.args.text.now c.as_str.result.now c.in-Some.first =
    past c.args.text.now c.as_str.result.now c.in-Some.first c.utf8.text cut in
    c.is_spelled.ensures ∙ spelled c.args.text.now c.as_str.result.now c.in-Some.first front.same
