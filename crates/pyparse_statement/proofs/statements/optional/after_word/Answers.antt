use Rattle.pyparse_statement.proofs.Recorders.Parts.{after_none, following_one}
use Rattle.pyparse_statement.proofs.statements.optional.after_word.Goals as goal

pub returns-then-not-is_word-clause-placed : goal.returns-then-not-is_word-clause-placed
returns-then-not-is_word-clause-placed g c = after_none c.none_at.ensures.expr c.none_at.ensures.next

pub returns-clause-placed : goal.returns-clause-placed
returns-clause-placed g c = let h = c.in_ok-e.ensures.placed in following_one c.in_ok-e.e c.one.ensures.expr c.one.ensures.next
    c.if-not-is_word.ensures h.1 h.2
