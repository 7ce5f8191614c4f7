use Rattle.pytree_node.specs.TreeOf.{module_of}
use Rattle.examples.proofs.trees.rewritten.Goals as goal

pub returns : goal.returns
returns c = record {
  written = record {
    tree = module_of c.in_ok-tree.tree;
    accepted = c.in_ok-tree.ensures.accepted;
    text_is = c.in_ok-unparse.ensures.text;
    back = c.in_ok-unparse.ensures.round_trip;
  };
  refused = tt;
}
