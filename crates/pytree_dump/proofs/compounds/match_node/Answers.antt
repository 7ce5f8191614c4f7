use Rattle.std.proofs.Common.{arith, refl, codes}
use Rattle.pytree_dump.proofs.NodeLemmas.{marked_node}
use Rattle.pytree_dump.proofs.compounds.match_node.Goals as goal

pub returns : goal.returns
returns c = marked_node c.args.style _ (codes "Match(") _ (omega arith) refl refl refl c.is_short_match.ensures
