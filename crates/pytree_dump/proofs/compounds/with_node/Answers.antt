use Rattle.std.proofs.Common.{arith, refl}
use Rattle.pytree_dump.proofs.NodeLemmas.{marked_node}
use Rattle.pytree_dump.proofs.compounds.with_node.Goals as goal

pub returns : goal.returns
returns c = marked_node c.args.style _ c.args.class.now _ (omega arith) refl refl refl c.is_short_with.ensures
