use Rattle.pytree_node.specs.TreeOf.{boxed_of}
use Rattle.std.proofs.lemmas.Result.{IfOk-equal}
use Rattle.pyunparse.proofs.StatementParts.SimpleLemmas.{raise_on}
use Rattle.pyunparse.proofs.statements.write_raise.Goals as goal

pub returns : goal.returns
returns g c = IfOk-equal _ _ _ _ c.write_cause.ensures
    (raise_on g.W.Writer.after c.args.out.now (boxed_of c.args.exc.now) (boxed_of c.args.cause.now) _ _ c.in_ok-put_word.ensures
    c.in_ok-write_boxed.ensures)
