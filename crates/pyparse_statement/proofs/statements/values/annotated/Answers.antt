use Rattle.pyparse_statement.proofs.Recorders.Values.{annotation_placed}
use Rattle.pyparse_statement.proofs.statements.values.annotated.Goals as goal

pub returns-clause-placed : goal.returns-clause-placed
returns-clause-placed g c = let h = c.in_ok-annotation.ensures.placed in
    annotation_placed c.in_ok-annotation.annotation h.1 h.2 c.in_ok-value.ensures.placed c.annotation_of.ensures.statement
    c.annotation_of.ensures.next
