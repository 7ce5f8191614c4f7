use Rattle.std.proofs.Common.{◌≡◌, ◌≤◌, ◌-◌, length}
use Rattle.pytree_node.specs.Values as values
use Rattle.pyparse_nodes.specs.Runs.{run}
use Rattle.pyparse_nodes.specs.Views.{seen}
use Rattle.pyparse_nodes.proofs.literals.text_run.Given as goal

abbrev pub invariant-loop-more : goal.invariant-loop-more
invariant-loop-more l = record {
  ahead : l.at ≤ l.next;
  within : l.next ≤ length l.tokens;
  is : run (values.Str l.fn.first l.unicode) (seen l.tokens l.at) ≡ run (values.Str l.points l.unicode) (seen l.tokens l.next);
}

abbrev pub decreases-loop-more : goal.decreases-loop-more
decreases-loop-more l = length l.tokens - l.next
