use Rattle.std.proofs.Common.{sym, refl, arith}
use Rattle.pylex_lexeme.proofs.Fronts.Taking.{took_none, took_some, point_none, point_alone, point_digits}
use Rattle.pylex_lexeme.proofs.number.point.Goals as goal

pub returns-then-not-has_next : goal.returns-then-not-has_next
returns-then-not-has_next c = took_none _ c.args.text.now (point_none c.args.text.now (sym (c.if-not-has_next.ensures)))

pub returns-then-has_next : goal.returns-then-has_next
returns-then-has_next c = let f = c.if-has_next.ensures in let g = rw c.bump_count.ensures at f in
    took_some _ 1 _ c.args.text.now _ (point_digits c.args.text.now (sym (c.if-not-has_next.ensures)) (sym g)) (omega arith)
    (rw (c.bump_joined.ensures, c.bump_count.ensures) refl)

pub returns : goal.returns
returns c = let f = c.if-has_next.ensures in let g = rw c.bump_count.ensures at f in
    took_some _ 1 0 c.args.text.now _ (point_alone c.args.text.now (sym (c.if-not-has_next.ensures)) (sym g))
    (omega arith) c.bump_count.ensures
