use Rattle.std.proofs.Common.{arith, refl}
use Rattle.pyparse_statement.proofs.statements.StatementSteps.{statement_height, statement_pushed}
use Rattle.pyparse_statement.proofs.statements.statements.take_statement.Goals as goal

pub returns-in_ok-node-in-Ok-clause-taken : goal.returns-in_ok-node-in-Ok-clause-taken
returns-in_ok-node-in-Ok-clause-taken g c = record {
  one = c.in-Ok.one;
  between = _;
  part = c.in-Ok.ensures.answered;
  grown = statement_pushed _ _ c.in-Ok.one.statement c.in_ok-append-in-Ok.ensures.put;
  next_is = refl;
  fields = c.in-Ok.ensures.placed;
  node = c.in_ok-node-in-Ok.ensures;
}

pub returns-in_ok-node-in-Ok-clause-height : goal.returns-in_ok-node-in-Ok-clause-height
returns-in_ok-node-in-Ok-clause-height g c was = omega (
  arith,
  statement_height _ _ c.in-Ok.one.statement _ _ c.in_ok-append-in-Ok.ensures.put was c.in-Ok.one.is_height,
)
