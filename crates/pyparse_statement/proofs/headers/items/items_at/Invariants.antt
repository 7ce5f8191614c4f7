use Rattle.std.proofs.Common.{◌-◌, ◌≤◌, length, map}
use Rattle.pytree_node.specs.TreeOf.{item_of}
use Rattle.pygrammar.specs.LineReader.{commas_of, read_item}
use Rattle.pyparse_reads.specs.Readings.{reads}
use Rattle.pyparse_nodes.specs.Views.{seen}
use Rattle.pyparse_statement.proofs.Commas.{Listed}
use Rattle.pyparse_statement.specs.Inner.Items.{more_items}
use Rattle.pyparse_statement.proofs.Recorders.Headers.{ItemsGrown}
use Rattle.pyparse_statement.proofs.headers.items.items_at.Given as goal

abbrev pub invariant-more : goal.invariant-more
invariant-more g l = record {
  ahead : l.at ≤ l.items.next;
  is : Listed l.tokens (read_item (reads l.depth)) (more_items l.in_brackets)
      (commas_of (read_item (reads l.depth)) (more_items l.in_brackets) (seen l.tokens l.at))
      (map item_of l.items.items.items) l.items.next;
  grown : ItemsGrown g.R.Recorder.after l.tokens l.at l.initial.recorder l.recorder l.items;
}

abbrev pub decreases-more : goal.decreases-more
decreases-more g l = length l.tokens - l.items.next
