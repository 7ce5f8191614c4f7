use Rattle.std.proofs.Common.{◌≡◌, ◌++◌, map}
use Rattle.pytree_node.specs.TreeOf.{pattern_of}
use Rattle.pyparse_pattern.specs.Inner.Entries.{alone_in, entry_of}
use Rattle.pyparse_pattern.proofs.lists.with_elements.Given as goal

abbrev pub invariant-loop-entry : goal.invariant-loop-entry
invariant-loop-entry l = map pattern_of l.items.items ++ alone_in (map entry_of l.entry-iterator.rest.items) ≡ map pattern_of
    l.fn.patterns.items.items ++ alone_in (map entry_of l.fn.entries.items.items)
