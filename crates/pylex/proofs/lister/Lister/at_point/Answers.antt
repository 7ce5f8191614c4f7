use Rattle.std.proofs.Common.{[], length, refl, ap, arith}
use Rattle.std.specs.Str.{chars}
use Rattle.pylex.specs.Cursors.{CursorParts}
use Rattle.pylex.proofs.Resumption.Returning.{point_boundary, point_parts, skip_led, keeps_led}
use Rattle.pylex.proofs.lister.Lister.at_point.Goals as goal

pub split_at-requires : goal.split_at-requires
split_at-requires c = point_boundary c.args.cursor.now c.args.source.now c.text.result.now c.point-point.result.offset c.requires
    c.text.ensures.value c.text.utf8 (ap (λ (p : CursorParts). p.offset) (c.point-point.ensures 0 0 []))

pub overflow_sub-given : goal.overflow_sub-given
overflow_sub-given c = let s = skip_led c.args.cursor.now c.args.source.now c.requires in omega arith

pub at-requires : goal.at-requires
at-requires c = omega (arith, c.last_line.ensures.within, c.split_at.ensures.front_len, c.text.ensures.within)

pub invariant_of-result : goal.invariant_of-result
invariant_of-result c = rw (c.at.ensures.given, c.at.ensures.point, c.at.ensures.levels, c.at.ensures.nested, c.at.ensures.tail)
    (keeps_led c.args.cursor.now c.args.source.now c.point-point.result c.given.result c.skip.result (length c.in_ok-levels.levels.items)
    c.in_ok-levels.levels.items c.at.result.now c.text.result.now c.split_at.result.0.now c.split_at.result.1.now
    (chars c.last_line.result.now) c.requires c.point-point.ensures c.in_ok-levels.ensures c.given.ensures c.skip.ensures refl
    c.text.ensures.value c.text.utf8 c.text.ensures.within c.split_at.ensures.front c.split_at.ensures.back
    c.last_line.ensures.line c.at.ensures.now)

pub returns : goal.returns
returns c = rw (c.at.ensures.given, c.at.ensures.point, c.at.ensures.levels, c.at.ensures.nested, c.at.ensures.tail)
    (ap (λ (p : CursorParts). record { source = c.args.source.now; shown = p }) (point_parts c.args.cursor.now c.point-point.result
    c.given.result c.skip.result (length c.in_ok-levels.levels.items) c.in_ok-levels.levels.items c.point-point.ensures
    c.in_ok-levels.ensures c.given.ensures c.skip.ensures refl))
