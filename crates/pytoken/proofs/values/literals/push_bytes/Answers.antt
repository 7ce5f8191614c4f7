use Rattle.std.proofs.Common.{sym, ◌∙◌, true}
use Rattle.pytoken.specs.Laws.{is_byte}
use Rattle.pytoken.proofs.values.LiteralLemmas.{parts_on, points_on, points_end}
use Rattle.pytoken.proofs.values.RunLemmas.{Cut, cut_on, cut_parts, cut_shorter}
use Rattle.pytoken.proofs.values.literals.push_bytes.Goals as goal

pub loop-meaning-smaller : goal.loop-meaning-smaller
loop-meaning-smaller c =
    let cut : Cut c.args.raw c.next_meaning.new.text c.bump_plain.result.now c.bump_plain.new.self =
    record { whole = c.bump_plain.ensures.whole; plain = c.bump_plain.ensures.plain } in
    cut_shorter c.args.raw true c.loop-meaning.left c.next_meaning.new.text c.bump_plain.result.now c.bump_plain.new.self c.in-Some.meaning
    (sym c.next_meaning.ensures.meaning ∙ c.in-Some.is) c.next_meaning.ensures.following cut

pub loop-meaning-preserved : goal.loop-meaning-preserved
loop-meaning-preserved c = λ small.
    let had = c.loop-meaning.invariant small in
    let first = sym c.next_meaning.ensures.meaning ∙ c.in-Some.is in
    let parts = parts_on is_byte c.args.raw true c.loop-meaning.left c.next_meaning.new.text c.in-Some.meaning first
    c.next_meaning.ensures.following
    had.1 in
    let cut : Cut c.args.raw c.next_meaning.new.text c.bump_plain.result.now c.bump_plain.new.self =
    record { whole = c.bump_plain.ensures.whole; plain = c.bump_plain.ensures.plain } in (
      cut_on c.args.raw true c.next_meaning.new.text c.bump_plain.result.now c.bump_plain.new.self c.push_byte.new.bytes.items
          c.extend_from_slice.new.self.items _ cut c.in_ok-extend_from_slice.ensures.items
          (points_on c.args.raw true c.loop-meaning.left c.next_meaning.new.text c.in-Some.meaning c.loop-meaning.bytes.items
          c.push_byte.new.bytes.items _ first c.next_meaning.ensures.following (c.in_ok-push_byte.ensures parts.0) had.0),
      cut_parts is_byte c.args.raw true c.next_meaning.new.text c.bump_plain.result.now c.bump_plain.new.self cut parts.1,
    )

pub returns : goal.returns
returns c = λ small.
    points_end c.args.raw _ c.loop-meaning.left c.loop-meaning.bytes.items _ (sym c.next_meaning.ensures.meaning ∙ c.in_default.is)
    (c.loop-meaning.invariant small).0
