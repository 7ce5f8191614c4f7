use Rattle.std.proofs.Common.{arith}
use Rattle.pytree_node.specs.TreeOf.{tree_of}
use Rattle.pyparse_reads.specs.Readings.{reads}
use Rattle.pyparse_statement.proofs.statements.ValueSteps.{augmented_found}
use Rattle.pyparse_statement.proofs.Recorders.Values.{augmented_placed}
use Rattle.pyparse_statement.proofs.statements.values.augmented.Goals as goal

pub returns-clause-answered : goal.returns-clause-answered
returns-clause-answered g c = augmented_found c.args.tokens.now (reads c.args.depth) (tree_of c.args.value.expr.value)
    c.args.value.next c.args.op c.requires.op
    (tree_of c.in_ok-target.target.expr.value) c.in_ok-target.ensures.is (tree_of c.in_ok-right.right.expr.value)
    c.in_ok-right.right.next _ _
    c.in_ok-right.ensures.answered.is (omega (arith, c.in_ok-right.ensures.answered.ahead)) c.in_ok-right.ensures.answered.within
    c.augmented_of.ensures.statement
    c.augmented_of.ensures.next

pub returns-clause-placed : goal.returns-clause-placed
returns-clause-placed g c = let h = c.in_ok-right.ensures.placed in
    augmented_placed c.in_ok-target.target c.in_ok-right.right c.requires.op c.in_ok-target.ensures h.1 h.2 c.augmented_of.ensures.statement
    c.augmented_of.ensures.next
