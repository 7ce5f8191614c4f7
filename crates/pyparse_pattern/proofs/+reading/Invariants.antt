use Rattle.std.proofs.Common.{◌+◌, ◌-◌, ◌*◌, ◌≤◌, length}
use Rattle.pytree_node.specs.TreeOf.{pattern_of}
use Rattle.pyparse_nodes.specs.Views.{seen}
use Rattle.pyparse_pattern.specs.Inner.Entries.{item_of}
use Rattle.pyparse_pattern.specs.Inner.Readings.{alternatives_of, entries_of}
use Rattle.pyparse_pattern.proofs.AlternativeSteps.{Alternatives}
use Rattle.pyparse_pattern.proofs.EntrySteps.{Listed}
use Rattle.pyparse_pattern.proofs.Recorders.Entries.{EntriesGrown}
use Rattle.pyparse_pattern.proofs.Recorders.Levels.{BarsGrown}
use Rattle.pyparse_pattern.proofs.+reading.Given as goal

abbrev pub decreases-levels::read_pattern : goal.decreases-levels::read_pattern
decreases-levels::read_pattern g l = 20 * l.depth.steps + 12

abbrev pub decreases-levels::read_patterns : goal.decreases-levels::read_patterns
decreases-levels::read_patterns g l = 20 * l.depth.steps + 11

abbrev pub decreases-levels::read_star : goal.decreases-levels::read_star
decreases-levels::read_star g l = 20 * l.depth.steps + 10

abbrev pub decreases-levels::read_as : goal.decreases-levels::read_as
decreases-levels::read_as g l = 20 * l.depth.steps + 9

abbrev pub decreases-levels::read_or : goal.decreases-levels::read_or
decreases-levels::read_or g l = 20 * l.depth.steps + 8

abbrev pub decreases-levels::alternatives : goal.decreases-levels::alternatives
decreases-levels::alternatives g l = 20 * l.depth.steps + 7

abbrev pub decreases-closed::read_closed : goal.decreases-closed::read_closed
decreases-closed::read_closed g l = 20 * l.depth.steps + 7

abbrev pub decreases-closed::name_pattern : goal.decreases-closed::name_pattern
decreases-closed::name_pattern g l = 20 * l.depth.steps + 6

abbrev pub decreases-closed::class_pattern : goal.decreases-closed::class_pattern
decreases-closed::class_pattern g l = 20 * l.depth.steps + 5

abbrev pub decreases-closed::mapping : goal.decreases-closed::mapping
decreases-closed::mapping g l = 20 * l.depth.steps + 6

abbrev pub decreases-sequences::round : goal.decreases-sequences::round
decreases-sequences::round g l = 20 * l.depth.steps + 6

abbrev pub decreases-sequences::square : goal.decreases-sequences::square
decreases-sequences::square g l = 20 * l.depth.steps + 6

abbrev pub decreases-sequences::others : goal.decreases-sequences::others
decreases-sequences::others g l = 20 * l.depth.steps + 5

abbrev pub decreases-sequences::elements : goal.decreases-sequences::elements
decreases-sequences::elements g l = 20 * l.depth.steps + 4

abbrev pub decreases-listings::read_entries : goal.decreases-listings::read_entries
decreases-listings::read_entries g l = 20 * l.depth.steps + 3

abbrev pub decreases-listings::read_entry : goal.decreases-listings::read_entry
decreases-listings::read_entry g l = 20 * l.depth.steps + 2

abbrev pub decreases-listings::key_entry : goal.decreases-listings::key_entry
decreases-listings::key_entry g l = 20 * l.depth.steps + 1

abbrev pub decreases-listings::argument_entry : goal.decreases-listings::argument_entry
decreases-listings::argument_entry g l = 20 * l.depth.steps + 1

abbrev pub invariant-levels::alternatives-bars : goal.invariant-levels::alternatives-bars
invariant-levels::alternatives-bars g l = record {
  ahead : l.fn.first.next ≤ l.patterns.next;
  is : Alternatives l.tokens l.depth (pattern_of l.fn.first.pattern.value)
      (alternatives_of l.depth (seen l.tokens l.fn.first.next)) l.patterns;
  grown : BarsGrown g.R.Recorder.after l.tokens l.fn.first.next (pattern_of l.fn.first.pattern.value) l.patterns l.fn.recorder l.recorder;
}

abbrev pub decreases-levels::alternatives-bars : goal.decreases-levels::alternatives-bars
decreases-levels::alternatives-bars g l = length l.tokens - l.patterns.next

abbrev pub invariant-listings::read_entries-more : goal.invariant-listings::read_entries-more
invariant-listings::read_entries-more g l = record {
  ahead : l.at ≤ l.before.next;
  is : Listed l.tokens l.depth (item_of l.item) (entries_of l.depth (item_of l.item) (seen l.tokens l.at)) l.before;
  grown : EntriesGrown g.R.Recorder.after g.R.Recorder.beside l.tokens (item_of l.item) l.at l.before l.fn.recorder l.recorder;
}

abbrev pub decreases-listings::read_entries-more : goal.decreases-listings::read_entries-more
decreases-listings::read_entries-more g l = length l.tokens - l.before.next
