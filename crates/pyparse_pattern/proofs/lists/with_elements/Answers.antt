use Rattle.std.proofs.Common.{◌≡◌, ◌++◌, ◌∙◌, arith, map, refl}
use Rattle.pytree_node.specs.TreeOf.{pattern_of}
use Rattle.pyparse_pattern.specs.Inner.Entries.{alone_in, entry_of}
use Rattle.pyparse_pattern.proofs.Arranged.{ended}
use Rattle.pyparse_pattern.proofs.Growing.{alone_heights}
use Rattle.pyparse_pattern.proofs.lists.with_elements.Goals as goal

pub invariant_of-result : goal.invariant_of-result
invariant_of-result c =
    let q : map pattern_of c.loop-entry.items.items ≡ map pattern_of c.args.patterns.items.items ++ alone_in
    (map entry_of c.args.entries.items.items) = ended (map pattern_of c.loop-entry.items.items) _ alone_in
    c.loop-entry.entry-iterator.rest.items (omega (arith, c.loop-entry.entry-iterator.rest.ok.0, c.in-None.ensures.steps.0)) refl
    c.loop-entry.invariant in
    record {
      is_height = c.max-height.ensures ∙ alone_heights (map pattern_of c.args.patterns.items.items)
          (map pattern_of c.loop-entry.items.items) (map entry_of c.args.entries.items.items) _ _ q c.requires c.args.patterns.is_height
          c.args.entries.is_height;
    }
