use Rattle.pyparse_statement.proofs.Recorders.Parts.{optional_none, optional_one}
use Rattle.pyparse_statement.proofs.statements.optional.stars_or_none.Goals as goal

pub returns-then-not-starts_stars-clause-placed : goal.returns-then-not-starts_stars-clause-placed
returns-then-not-starts_stars-clause-placed g c = optional_none c.none_at.ensures.expr c.none_at.ensures.next

pub returns-clause-placed : goal.returns-clause-placed
returns-clause-placed g c = let h = c.in_ok-e.ensures.placed in optional_one c.in_ok-e.e c.one.ensures.expr c.one.ensures.next h.1 h.2
