use Rattle.std.proofs.Common.{sym}
use Rattle.pylex_lexeme.proofs.Lexemes.Union.{return_takes, both_take}
use Rattle.pylex_lexeme.proofs.lexeme.carriage_return.Goals as goal

pub returns-then-not-has_next : goal.returns-then-not-has_next
returns-then-not-has_next c = return_takes c.args.text.now c.requires (sym c.if-not-has_next.ensures)

pub returns : goal.returns
returns c = rw c.bump_count.ensures (both_take c.args.text.now c.requires (sym c.if-not-has_next.ensures))
