use Rattle.std.proofs.Common.{◌≡◌, drop, map}
use Rattle.pygrammar.specs.PatternEntries.{is_mapping}
use Rattle.pyparse_pattern.specs.Inner.Entries.{entry_of}
use Rattle.pyparse_pattern.proofs.mappings.is_mapping.Given as goal

abbrev pub invariant-loop-at : goal.invariant-loop-at
invariant-loop-at l = is_mapping (map entry_of (drop l.at l.items)) ≡ is_mapping (map entry_of l.items)
