use Rattle.std.proofs.Common.{◌≡◌, ◌++◌, map}
use Rattle.pytree_node.specs.TreeOf.{pattern_of}
use Rattle.pygrammar.specs.PatternEntries.{named_attributes}
use Rattle.pyparse_pattern.specs.Inner.Entries.{alone_in, entry_of, named_in}
use Rattle.pyparse_pattern.proofs.classes.make_class.Given as goal

abbrev pub invariant-loop-entry : goal.invariant-loop-entry
invariant-loop-entry l = record {
  patterns : map pattern_of l.parts.patterns.items ++ alone_in (map entry_of l.entry-iterator.rest.items) ≡ alone_in
      (map entry_of l.fn.entries.items.items);
  names : l.parts.kwd_attrs.items ++ named_attributes (map entry_of l.entry-iterator.rest.items) ≡ named_attributes
      (map entry_of l.fn.entries.items.items);
  named : map pattern_of l.parts.kwd_patterns.items ++ named_in (map entry_of l.entry-iterator.rest.items) ≡ named_in
      (map entry_of l.fn.entries.items.items);
}
