use Rattle.pyparse_block.proofs.TryLemmas.{plain_try, star_try}
use Rattle.pyparse_block.proofs.statements.try_statement.Goals as goal

pub returns-then-star : goal.returns-then-star
returns-then-star c = star_try c.args.star c.in_ok-parts.parts _ c.in_ok-parts.ensures.ok c.if-star.true

pub returns-else-star : goal.returns-else-star
returns-else-star c = plain_try c.args.star c.in_ok-parts.parts _ c.in_ok-parts.ensures.ok c.if-star.false
