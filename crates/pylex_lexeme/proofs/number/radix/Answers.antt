use Rattle.std.proofs.Common.{sym}
use Rattle.pylex_lexeme.proofs.Fronts.Taking.{took_none, took_is, radix_none, radix_x, radix_o, radix_b, radix_other}
use Rattle.pylex_lexeme.proofs.number.radix.Goals as goal

pub returns-then-not-has_next : goal.returns-then-not-has_next
returns-then-not-has_next c = took_none _ c.args.text.now (radix_none c.args.text.now (sym (c.if-not-has_next.ensures)))

pub returns-then-has_next : goal.returns-then-has_next
returns-then-has_next c =
    took_is _ _ _ c.args.text.now _ (radix_x c.args.text.now (sym (c.if-not-has_next.ensures)) (sym (c.if-has_next.ensures)))
    c.based.ensures

pub returns-then-has_next-2 : goal.returns-then-has_next-2
returns-then-has_next-2 c =
    took_is _ _ _ c.args.text.now _ (radix_o c.args.text.now (sym (c.if-not-has_next.ensures)) (sym (c.if-has_next.ensures))
    (sym (c.if-has_next-2.ensures))) c.based-then-has_next-2.ensures

pub returns-then-has_next-3 : goal.returns-then-has_next-3
returns-then-has_next-3 c =
    took_is _ _ _ c.args.text.now _ (radix_b c.args.text.now (sym (c.if-not-has_next.ensures)) (sym (c.if-has_next.ensures))
    (sym (c.if-has_next-2.ensures)) (sym (c.if-has_next-3.ensures))) c.based-then-has_next-3.ensures

pub returns : goal.returns
returns c = took_none _ c.args.text.now (radix_other c.args.text.now (sym (c.if-not-has_next.ensures)) (sym (c.if-has_next.ensures))
    (sym (c.if-has_next-2.ensures)) (sym (c.if-has_next-3.ensures)))
