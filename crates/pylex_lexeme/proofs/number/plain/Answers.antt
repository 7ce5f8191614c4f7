use Rattle.std.proofs.Common.{sym}
use Rattle.pylex_lexeme.proofs.Fronts.Taking.{plain_tail, plain_other, plain_zeros}
use Rattle.pylex_lexeme.proofs.number.plain.Goals as goal

pub returns-then-tail : goal.returns-then-tail
returns-then-tail c = plain_tail c.args.text.now _ _ c.bump_joined.ensures (c.if-tail.ensures)

pub returns-then-not-has_next : goal.returns-then-not-has_next
returns-then-not-has_next c = let f = c.if-not-has_next.ensures in let g = rw c.again-start.ensures at f in
    plain_other c.args.text.now _ _ c.bump_joined.ensures (sym g) (c.if-tail.ensures)

pub returns : goal.returns
returns c = let f = c.if-not-has_next.ensures in let g = rw c.again-start.ensures at f in
    rw (c.bump_joined-2.ensures, c.again-start.ensures) (plain_zeros c.args.text.now _ _ c.bump_joined.ensures (sym g) (c.if-tail.ensures))
