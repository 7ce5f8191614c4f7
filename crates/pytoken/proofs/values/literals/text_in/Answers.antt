use Rattle.std.proofs.Common.{ℕ, List, ◌++◌, sym, ap, ◌∙◌, false}
use Rattle.pytoken.specs.Inner.Readings.{body_points}
use Rattle.pytoken.proofs.values.RunLemmas.{Cut, cut_points, cut_whole}
use Rattle.pytoken.proofs.values.literals.text_in.Goals as goal

pub returns-then-is_done : goal.returns-then-is_done
returns-then-is_done c =
    let cut : Cut c.args.raw c.args.body c.bump_plain.result.now c.bump_plain.new.self =
    record { whole = c.bump_plain.ensures.whole; plain = c.bump_plain.ensures.plain } in
    cut_whole c.args.raw false c.args.body c.bump_plain.result.now c.bump_plain.new.self c.push_bytes.new.self cut
    (c.is_done.ensures c.if-is_done.true)
    (c.in_ok-push_bytes.ensures ∙ ap (λ (x : List ℕ). x ++ c.bump_plain.result.now) c.new-points.ensures)

pub returns : goal.returns
returns c =
    let cut : Cut c.args.raw c.args.body c.bump_plain.result.now c.bump_plain.new.self =
    record { whole = c.bump_plain.ensures.whole; plain = c.bump_plain.ensures.plain } in
    c.in_ok-push_text.ensures
    ∙ ap (λ (x : List ℕ). x ++ body_points c.args.raw false c.bump_plain.new.self)
    (c.in_ok-push_bytes.ensures ∙ ap (λ (x : List ℕ). x ++ c.bump_plain.result.now) c.new-points.ensures)
    ∙ sym (cut_points c.args.raw false c.args.body c.bump_plain.result.now c.bump_plain.new.self cut)
