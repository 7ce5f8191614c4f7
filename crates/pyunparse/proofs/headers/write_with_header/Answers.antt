use Rattle.std.proofs.Common.{map}
use Rattle.std.proofs.lemmas.Result.{IfOk-equal}
use Rattle.pytree_node.specs.TreeOf.{item_of}
use Rattle.pyunparse.proofs.StatementParts.WithLemmas.{with_on}
use Rattle.pyunparse.proofs.headers.write_with_header.Goals as goal

pub returns : goal.returns
returns g c = IfOk-equal _ _ _ _ c.put_colon.ensures
    (with_on g.W.Writer.after c.args.out.now c.args.is_async (map item_of c.args.items.now) _ _ _ _ _ _ c.need_brackets-bare.ensures
    c.in_ok-put_async.ensures c.in_ok-put_word.ensures c.in_ok-open.ensures c.in_ok-write_items.ensures c.in_ok-close.ensures)
