use Rattle.std.proofs.Common.{◌+◌, refl, sym}
use Rattle.pytree_node.specs.TreeOf.{pattern_of}
use Rattle.pyparse_pattern.proofs.LevelSteps.{as_made}
use Rattle.pyparse_pattern.proofs.Recorders.Levels.{as_placed}
use Rattle.pyparse_pattern.proofs.levels.named.Goals as goal

pub returns-in_ok-node-in-Some-clause-answered : goal.returns-in_ok-node-in-Some-clause-answered
returns-in_ok-node-in-Some-clause-answered g c =
    as_made c.args.tokens.now (c.args.inner.next + 1) _ c.in-Some.ensures.is c.in-Some.ensures.within
    c.in_ok-name-in-Some.name c.in_ok-name-in-Some.ensures (sym c.if-is_wildcard.ensures) c.args.depth
    (pattern_of c.args.inner.pattern.value) c.args.inner.next c.make_as.result c.requires refl c.make_as.ensures

pub returns-in_ok-node-in-Some-clause-placed : goal.returns-in_ok-node-in-Some-clause-placed
returns-in_ok-node-in-Some-clause-placed g c =
    as_placed g.R.Recorder.after _ _ c.args.tokens.now c.args.at c.args.depth.room c.args.inner _ c.in_ok-name-in-Some.name
    c.make_as.result c.requires c.in-Some.ensures.is c.in_ok-name-in-Some.ensures (sym c.if-is_wildcard.ensures)
    c.in_ok-node-in-Some.ensures c.make_as.ensures
