use Rattle.std.proofs.lemmas.Result.{IfOk-equal}
use Rattle.pytree_node.specs.TreeOf.{boxed_of, tree_of}
use Rattle.pyunparse.proofs.StatementParts.SimpleLemmas.{assert_on}
use Rattle.pyunparse.proofs.statements.write_assert.Goals as goal

pub returns : goal.returns
returns g c = IfOk-equal _ _ _ _ c.write_message.ensures
    (assert_on g.W.Writer.after c.args.out.now (tree_of c.args.test.now) (boxed_of c.args.msg.now) _ _ c.in_ok-put_word.ensures
    c.in_ok-write_expr.ensures)
