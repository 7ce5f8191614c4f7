use Rattle.pytree_node.specs.TreeOf.{module_of}
use Rattle.examples.proofs.trees.dumped.Goals as goal

pub returns : goal.returns
returns c = record {
  dumped = record { tree = module_of c.in_ok-tree.tree; accepted = c.in_ok-tree.ensures.accepted; text_is = c.in_ok-dump.ensures };
  refused = tt;
}
