use Rattle.std.proofs.lemmas.Result.{IfOk-equal}
use Rattle.pytree_node.specs.TreeOf.{tree_of}
use Rattle.pyunparse.proofs.StatementParts.HeaderLemmas.{match_on}
use Rattle.pyunparse.proofs.headers.write_match_header.Goals as goal

pub returns : goal.returns
returns g c = IfOk-equal _ _ _ _ c.put_colon.ensures (match_on g.W.Writer.after c.args.out.now (tree_of c.args.subject.now) _ _
    c.in_ok-put_text.ensures c.in_ok-write_expr.ensures)
