use Rattle.std.proofs.Common.{◌≡◌, ◌++◌, map, None}
use Rattle.pytree_node.specs.TreeOf.{pattern_of, tree_of}
use Rattle.pygrammar.specs.PatternEntries.{pattern_keys}
use Rattle.pyparse_pattern.specs.Inner.Entries.{entry_of, keyed_in, rest_from}
use Rattle.pyparse_pattern.proofs.mappings.make_mapping.Given as goal

abbrev pub invariant-loop-entry : goal.invariant-loop-entry
invariant-loop-entry l = record {
  keys : map tree_of l.parts.keys.items ++ pattern_keys (map entry_of l.entry-iterator.rest.items) ≡ pattern_keys
      (map entry_of l.fn.entries.items.items);
  patterns : map pattern_of l.parts.patterns.items ++ keyed_in (map entry_of l.entry-iterator.rest.items) ≡ keyed_in
      (map entry_of l.fn.entries.items.items);
  rest : rest_from l.parts.rest (map entry_of l.entry-iterator.rest.items) ≡ rest_from None (map entry_of l.fn.entries.items.items);
}
