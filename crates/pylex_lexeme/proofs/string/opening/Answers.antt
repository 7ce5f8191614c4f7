use Rattle.std.proofs.Common.{sym}
use Rattle.pylex_lexeme.proofs.Strings.Prefixes.{opens_zero, opens_one, opens_two, none_one, none_two, none_pair}
use Rattle.pylex_lexeme.proofs.string.opening.Goals as goal

pub returns-then-has_next-clause-some : goal.returns-then-has_next-clause-some
returns-then-has_next-clause-some c = opens_zero c.args.text.now (sym c.if-has_next.ensures)

pub returns-then-has_next-3-clause-some : goal.returns-then-has_next-3-clause-some
returns-then-has_next-3-clause-some c = opens_one c.args.text.now (sym c.if-has_next-2.ensures) (sym c.if-has_next-3.ensures)

pub returns-then-has_next-2-clause-none : goal.returns-then-has_next-2-clause-none
returns-then-has_next-2-clause-none c = none_one c.args.text.now (sym c.if-has_next.ensures) (sym c.if-has_next-2.ensures)
    (sym c.if-has_next-3.ensures)

pub returns-then-not-has_next-clause-none : goal.returns-then-not-has_next-clause-none
returns-then-not-has_next-clause-none c = none_two c.args.text.now (sym c.if-has_next.ensures) (sym c.if-has_next-2.ensures)
    (sym c.if-not-has_next.ensures)

pub returns-then-has_pair-clause-some : goal.returns-then-has_pair-clause-some
returns-then-has_pair-clause-some c = opens_two c.args.text.now (sym c.if-not-has_next.ensures) (sym c.if-has_pair.ensures)

pub returns-clause-none : goal.returns-clause-none
returns-clause-none c = none_pair c.args.text.now (sym c.if-has_next.ensures) (sym c.if-has_next-2.ensures) (sym c.if-has_pair.ensures)
