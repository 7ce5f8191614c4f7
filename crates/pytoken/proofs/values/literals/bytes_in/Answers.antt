use Rattle.std.proofs.Common.{ℕ, List, ◌++◌, sym, ap, ◌∙◌, true}
use Rattle.pytoken.specs.Laws.{is_byte}
use Rattle.pytoken.specs.Inner.Readings.{body_points}
use Rattle.pytoken.proofs.values.RunLemmas.{Cut, cut_points, cut_parts}
use Rattle.pytoken.proofs.values.literals.bytes_in.Goals as goal

pub returns : goal.returns
returns c = λ small.
    let cut : Cut c.args.raw c.args.body c.bump_plain.result.now c.bump_plain.new.self =
    record { whole = c.bump_plain.ensures.whole; plain = c.bump_plain.ensures.plain } in
    c.in_ok-push_bytes.ensures (cut_parts is_byte c.args.raw true c.args.body c.bump_plain.result.now c.bump_plain.new.self cut small)
    ∙ ap (λ (x : List ℕ). x ++ body_points c.args.raw true c.bump_plain.new.self) c.in_ok-bytes.ensures.items
    ∙ sym (cut_points c.args.raw true c.args.body c.bump_plain.result.now c.bump_plain.new.self cut)
