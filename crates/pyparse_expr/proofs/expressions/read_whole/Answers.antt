use Rattle.std.proofs.Common.{arith}
use Rattle.pytree_node.specs.TreeOf.{tree_of}
use Rattle.pyparse_expr.proofs.Reader.Wholes.{whole_high}
use Rattle.pyparse_expr.proofs.Recorders.Wholes.{whole_placed}
use Rattle.pyparse_expr.proofs.expressions.read_whole.Goals as goal

pub returns-then-read-gt-MOST_HEIGHT-clause-answered : goal.returns-then-read-gt-MOST_HEIGHT-clause-answered
returns-then-read-gt-MOST_HEIGHT-clause-answered g c =
    whole_high c.args.tokens.now c.args.level _ _ (tree_of c.in_ok-read.read.expr.value) _ (omega arith)
    (omega arith) c.in_ok-read.ensures.answered.is (omega (arith, c.in_ok-read.read.is_height))

pub returns-clause-placed : goal.returns-clause-placed
returns-clause-placed g c =
    let h = c.in_ok-read.ensures.placed in (
      h.0,
      whole_placed c.args.tokens.now c.args.level (tree_of c.in_ok-read.read.expr.value) c.in_ok-read.read.next h.0 (omega arith) h.1,
      h.2,
    )
