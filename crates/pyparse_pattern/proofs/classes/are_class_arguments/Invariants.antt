use Rattle.std.proofs.Common.{◌≡◌, drop, map, cond, false}
use Rattle.pygrammar.specs.PatternEntries.{all_named, are_class_arguments}
use Rattle.pyparse_pattern.specs.Inner.Entries.{entry_of}
use Rattle.pyparse_pattern.proofs.classes.are_class_arguments.Given as goal

abbrev pub invariant-loop-entry : goal.invariant-loop-entry
invariant-loop-entry l = cond l.named (all_named (map entry_of (drop l.entry-index l.items)))
    (are_class_arguments l.alone (map entry_of (drop l.entry-index l.items))) ≡ are_class_arguments false (map entry_of l.items)
