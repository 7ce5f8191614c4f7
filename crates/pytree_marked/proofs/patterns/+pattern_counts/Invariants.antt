use Rattle.std.proofs.Common.{◌≡◌, ◌+◌, map, take}
use Rattle.pytree_node.specs.Trees.{patterns}
use Rattle.pytree_node.specs.TreeOf.{pattern_of}
use Rattle.pytree_dump_text.specs.Shows.{shown_patterns}
use Rattle.pytree_marked.specs.MarkedNodes.{marked_rows}
use Rattle.pytree_marked.specs.Counts.{capped}
use Rattle.pytree_marked.proofs.patterns.+pattern_counts.Given as goal

abbrev pub invariant-patterns_marked-loop-p : goal.invariant-patterns_marked-loop-p
invariant-patterns_marked-loop-p l =
    l.count ≡ capped (l.before + marked_rows (shown_patterns (patterns (map pattern_of (take l.p-index l.ps)))))
