use Rattle.pyparse_statement.proofs.Recorders.Headers.{star_target_placed, target_placed}
use Rattle.pyparse_statement.proofs.headers.item_targets.item_target.Goals as goal

pub returns-in_ok-e-2-clause-placed : goal.returns-in_ok-e-2-clause-placed
returns-in_ok-e-2-clause-placed g c = let h = c.in_ok-e.ensures.placed in
    star_target_placed c.in_ok-e.e c.in_ok-e-2.e c.stored.result c.if-is_op.ensures h.1 h.2 c.in_ok-node.ensures c.in_ok-e-2.ensures.tree
    c.in_ok-e-2.ensures.next c.stored.ensures

pub returns-in_ok-e-3-clause-placed : goal.returns-in_ok-e-3-clause-placed
returns-in_ok-e-3-clause-placed g c = let h = c.in_ok-e-3.ensures.placed in
    target_placed c.args.tokens.now c.in_ok-e-3.e c.stored-else-is_op.result h.1 h.2 c.stored-else-is_op.ensures
