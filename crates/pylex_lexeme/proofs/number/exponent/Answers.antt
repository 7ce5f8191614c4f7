use Rattle.std.proofs.Common.{sym, refl, arith}
use Rattle.pylex_lexeme.proofs.Fronts.Taking.{took_none, took_some, exponent_none, exponent_digits, exponent_unsigned, exponent_empty}
use Rattle.pylex_lexeme.proofs.Fronts.Taking.{exponent_signed}
use Rattle.pylex_lexeme.proofs.number.exponent.Goals as goal

pub returns-then-not-has_next : goal.returns-then-not-has_next
returns-then-not-has_next c = took_none _ c.args.text.now (exponent_none c.args.text.now (sym (c.if-not-has_next.ensures)))

pub returns-then-has_next : goal.returns-then-has_next
returns-then-has_next c = took_some _ 1 _ c.args.text.now _ (exponent_digits c.args.text.now (sym (c.if-not-has_next.ensures))
    (sym (c.if-has_next.ensures))) (omega arith) (rw (c.bump_joined.ensures, c.bump_count.ensures) refl)

pub returns-then-not-has_next-2 : goal.returns-then-not-has_next-2
returns-then-not-has_next-2 c =
    took_none _ c.args.text.now (exponent_unsigned c.args.text.now (sym (c.if-not-has_next.ensures)) (sym (c.if-has_next.ensures))
    (sym (c.if-not-has_next-2.ensures)))

pub returns-then-not-has_next-3 : goal.returns-then-not-has_next-3
returns-then-not-has_next-3 c =
    took_none _ c.args.text.now (exponent_empty c.args.text.now (sym (c.if-not-has_next.ensures)) (sym (c.if-has_next.ensures))
    (sym (c.if-not-has_next-2.ensures)) (sym (c.if-not-has_next-3.ensures)))

pub returns : goal.returns
returns c = took_some _ 2 _ c.args.text.now _ (exponent_signed c.args.text.now (sym (c.if-not-has_next.ensures))
    (sym (c.if-has_next.ensures)) (sym (c.if-not-has_next-2.ensures)) (sym (c.if-not-has_next-3.ensures))) (omega arith)
    (rw (c.bump_joined-2.ensures, c.bump_count-2.ensures) refl)
