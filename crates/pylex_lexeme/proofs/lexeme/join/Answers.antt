use Rattle.std.proofs.Common.{sym}
use Rattle.pylex_lexeme.proofs.Lexemes.Union.{feed_joins, both_join, slash_takes}
use Rattle.pylex_lexeme.proofs.lexeme.join.Goals as goal

pub returns-then-has_next : goal.returns-then-has_next
returns-then-has_next c = rw c.bump_count.ensures (feed_joins c.args.text.now c.requires (sym c.if-has_next.ensures))

pub returns-then-not-has_line_end : goal.returns-then-not-has_line_end
returns-then-not-has_line_end c = slash_takes c.args.text.now c.requires (sym c.if-has_next.ensures) (sym c.if-not-has_line_end.ensures)

pub returns : goal.returns
returns c = rw c.bump_count-2.ensures (both_join c.args.text.now c.requires (sym c.if-not-has_line_end.ensures))
