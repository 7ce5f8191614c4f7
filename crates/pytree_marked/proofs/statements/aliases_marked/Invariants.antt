use Rattle.std.proofs.Common.{◌≡◌, ◌+◌, map, take}
use Rattle.pytree_node.specs.TreeOf.{alias_of}
use Rattle.pytree_dump_text.specs.Shows.{shown_aliases}
use Rattle.pytree_marked.specs.MarkedNodes.{marked_rows}
use Rattle.pytree_marked.specs.Counts.{capped}
use Rattle.pytree_marked.proofs.statements.aliases_marked.Given as goal

abbrev pub invariant-loop-name : goal.invariant-loop-name
invariant-loop-name l = l.count ≡ capped (l.before + marked_rows (shown_aliases (map alias_of (take l._name-index l.fn.names))))
