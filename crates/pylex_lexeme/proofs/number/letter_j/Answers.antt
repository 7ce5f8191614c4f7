use Rattle.std.proofs.Common.{sym, arith}
use Rattle.pylex_lexeme.proofs.Fronts.Taking.{took_none, took_some, j_none, j_some}
use Rattle.pylex_lexeme.proofs.number.letter_j.Goals as goal

pub returns-then-not-has_next : goal.returns-then-not-has_next
returns-then-not-has_next c = took_none _ c.args.text.now (j_none c.args.text.now (sym (c.if-not-has_next.ensures)))

pub returns : goal.returns
returns c = took_some _ 1 0 c.args.text.now _ (j_some c.args.text.now (sym (c.if-not-has_next.ensures))) (omega arith) c.bump_count.ensures
