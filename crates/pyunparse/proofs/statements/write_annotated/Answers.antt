use Rattle.std.proofs.lemmas.Result.{IfOk-equal}
use Rattle.pytree_node.specs.TreeOf.{tree_of}
use Rattle.pyunparse.proofs.StatementParts.SimpleLemmas.{annotated_on}
use Rattle.pyunparse.proofs.statements.write_annotated.Goals as goal

pub returns : goal.returns
returns g c = IfOk-equal _ _ _ _ c.close.ensures
    (annotated_on g.W.Writer.after c.args.out.now (tree_of c.args.target.now) c.args.simple _ _ _ c.annotated_in_brackets-bare.ensures
    c.in_ok-open.ensures c.in_ok-write_expr.ensures)
