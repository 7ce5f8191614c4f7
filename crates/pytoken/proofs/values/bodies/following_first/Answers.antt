use Rattle.std.proofs.Common.{◌≡◌, ℕ, List, ◌++◌, length, drop, refl, sym, ap, ◌∙◌}
use Rattle.std.specs.Char.{encode_utf8}
use Rattle.pytoken.proofs.Callers.TextLemmas.{past, no_chars}
use Rattle.pytoken.proofs.values.bodies.following_first.Goals as goal

pub returns-in-Some : goal.returns-in-Some
returns-in-Some c =
    let cut : c.args.text.now ≡ encode_utf8 c.in-Some._first ++ c.as_str.result.now =
    sym c.chars-left.ensures.rest ∙ c.in-Some.ensures.steps.0 ∙ ap (λ (t : List ℕ). encode_utf8 c.in-Some._first ++ t)
    (sym c.as_str.ensures) in
    sym (ap (drop 1) (past c.args.text.now c.as_str.result.now c.in-Some._first c.utf8.text cut).same)

pub returns-in-None : goal.returns-in-None
returns-in-None c =
    let none = no_chars c.args.text.now (ap length (sym c.chars-left.ensures.rest) ∙ c.in-None.ensures.steps.0.0) in
    rw none refl
