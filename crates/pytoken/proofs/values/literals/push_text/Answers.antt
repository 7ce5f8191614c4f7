use Rattle.std.proofs.Common.{refl, sym, ◌∙◌, false}
use Rattle.pytoken.specs.Laws.{is_point}
use Rattle.pytoken.proofs.Callers.Said.{points_are_in_range}
use Rattle.pytoken.proofs.values.LiteralLemmas.{parts_on, points_on, points_end}
use Rattle.pytoken.proofs.values.RunLemmas.{Cut, cut_on, cut_parts, cut_shorter}
use Rattle.pytoken.proofs.values.literals.push_text.Goals as goal

pub loop-meaning-init : goal.loop-meaning-init
loop-meaning-init c = record { whole = refl; points = points_are_in_range c.args.raw false c.args.rest c.requires }

pub push_point-requires : goal.push_point-requires
push_point-requires c =
    let first = sym c.next_meaning.ensures.meaning ∙ c.in-Some.is in
    (parts_on is_point c.args.raw _ c.loop-meaning.left c.next_meaning.new.text c.in-Some.meaning first c.next_meaning.ensures.following
    c.loop-meaning.invariant.points).0

pub loop-meaning-smaller : goal.loop-meaning-smaller
loop-meaning-smaller c =
    let cut : Cut c.args.raw c.next_meaning.new.text c.bump_plain.result.now c.bump_plain.new.self =
    record { whole = c.bump_plain.ensures.whole; plain = c.bump_plain.ensures.plain } in
    cut_shorter c.args.raw false c.loop-meaning.left c.next_meaning.new.text c.bump_plain.result.now c.bump_plain.new.self c.in-Some.meaning
    (sym c.next_meaning.ensures.meaning ∙ c.in-Some.is) c.next_meaning.ensures.following cut

pub loop-meaning-preserved : goal.loop-meaning-preserved
loop-meaning-preserved c =
    let first = sym c.next_meaning.ensures.meaning ∙ c.in-Some.is in
    let parts = parts_on is_point c.args.raw false c.loop-meaning.left c.next_meaning.new.text c.in-Some.meaning first
    c.next_meaning.ensures.following
    c.loop-meaning.invariant.points in
    let cut : Cut c.args.raw c.next_meaning.new.text c.bump_plain.result.now c.bump_plain.new.self =
    record { whole = c.bump_plain.ensures.whole; plain = c.bump_plain.ensures.plain } in
    record {
      whole = cut_on c.args.raw false c.next_meaning.new.text c.bump_plain.result.now c.bump_plain.new.self c.push_point.new.points
          c.push_bytes.new.self _ cut c.in_ok-push_bytes.ensures
          (points_on c.args.raw false c.loop-meaning.left c.next_meaning.new.text c.in-Some.meaning c.loop-meaning.points
          c.push_point.new.points _
          first c.next_meaning.ensures.following c.in_ok-push_point.ensures c.loop-meaning.invariant.whole);
      points = cut_parts is_point c.args.raw false c.next_meaning.new.text c.bump_plain.result.now c.bump_plain.new.self cut parts.1;
    }

pub returns : goal.returns
returns c = points_end c.args.raw _ c.loop-meaning.left c.loop-meaning.points _ (sym c.next_meaning.ensures.meaning ∙ c.in_default.is)
    c.loop-meaning.invariant.whole
