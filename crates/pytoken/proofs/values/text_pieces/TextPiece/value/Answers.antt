use Rattle.std.proofs.Common.{◌≡◌, ℕ, List, refl, ap, subst, ◌∙◌}
use Rattle.std.specs.Prelude.{IfOk}
use Rattle.std.specs.Str.{chars}
use Rattle.pytoken.specs.StringValues.{with_line_feeds}
use Rattle.pytoken.specs.TerminalOf.{text_part}
use Rattle.pytoken.proofs.values.PieceLemmas.{without_pairs, with_pairs, same_points}
use Rattle.pytoken.proofs.values.text_pieces.TextPiece.value.Goals as goal

pub returns-then-not-self : goal.returns-then-not-self
returns-then-not-self c =
    let p = text_part c.args.self in
    let cs = with_line_feeds p.source in
    subst (λ (xs : List ℕ). IfOk c.points.result (λ points. points ≡ xs))
    (same_points p cs (without_pairs p cs c.if-not-self.true refl)) c.points.ensures

pub returns : goal.returns
returns c =
    let p = text_part c.args.self in
    let made = chars c.as_str.result.now in
    let cs = with_line_feeds made in
    subst (λ (xs : List ℕ). IfOk c.points-2.result (λ points. points ≡ xs))
    (same_points p cs (with_pairs p made cs c.if-not-self.false (ap chars c.as_str.ensures.value ∙ c.in_ok-text.ensures) refl))
    c.points-2.ensures
