use Rattle.std.proofs.Common.{sym, refl, arith, drop}
use Rattle.pylex_lexeme.proofs.Fronts.Taking.{took_none, took_some, based_none, based_some}
use Rattle.pylex_lexeme.proofs.number.based.Goals as goal

pub returns-then-not-has_digits : goal.returns-then-not-has_digits
returns-then-not-has_digits c = took_none _ c.args.text.now (based_none _ (drop 2 c.args.text.now) (sym (c.if-not-has_digits.ensures)))

pub returns : goal.returns
returns c = took_some _ 2 _ c.args.text.now _ (based_some _ (drop 2 c.args.text.now) (sym (c.if-not-has_digits.ensures))) (omega arith)
    (rw (c.bump_joined.ensures, c.bump_count.ensures) refl)
