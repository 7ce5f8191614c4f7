use Rattle.std.proofs.Common.{◌+◌}
use Rattle.pytree_node.specs.TreeOf.{tree_of}
use Rattle.pyparse_expr.proofs.Reader.Trails.{attribute_made}
use Rattle.pyparse_expr.proofs.Recorders.Tails.{attribute_placed}
use Rattle.pyparse_expr.proofs.primaries.attribute_step.Goals as goal

pub returns-in_ok-node-in-Some-clause-answered : goal.returns-in_ok-node-in-Some-clause-answered
returns-in_ok-node-in-Some-clause-answered g c = attribute_made c.args.tokens.now c.args.depth.room (c.args.e.next + 1)
    (tree_of c.args.e.expr.value) _
    c.make_attribute.result c.in-Some.ensures.is c.in-Some.ensures.within c.make_attribute.ensures

pub returns-in_ok-node-in-Some-clause-placed : goal.returns-in_ok-node-in-Some-clause-placed
returns-in_ok-node-in-Some-clause-placed g c = λ s ps p. attribute_placed g.R.Recorder.after _ _ c.args.tokens.now c.args.at
    c.args.depth.room c.args.e ps _
    c.make_attribute.result s c.in-Some.ensures.is c.make_attribute.ensures c.in_ok-node-in-Some.ensures p
