use Rattle.std.proofs.Common.{arith, refl}
use Rattle.pytree_dump.proofs.NodeLemmas.{marked_node, short_anyway}
use Rattle.pytree_dump_text.specs.Layout.{is_flat}
use Rattle.pytree_dump.proofs.branches.BranchNode.none.Goals as goal

pub returns : goal.returns
returns c = λ style. marked_node style _ c.args.class.now _ (omega arith) refl refl refl (short_anyway (is_flat style.indent))
