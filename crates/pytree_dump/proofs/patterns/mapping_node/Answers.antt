use Rattle.std.proofs.Common.{arith, refl, codes}
use Rattle.pytree_node.specs.TreeOf.{tree_of}
use Rattle.pytree_dump_text.specs.Shows.{a_field, no_field, shown}
use Rattle.pytree_dump_text.specs.Blocks.{listed, shown_pattern_row}
use Rattle.std.proofs.Common.{ap}
use Rattle.pytree_dump.proofs.NodeLemmas.{marked_node}
use Rattle.pytree_dump.proofs.patterns.mapping_node.Goals as goal

pub returns : goal.returns
returns c =
    let keys = listed (λ e. shown (tree_of e)) c.args.keys.now in
    marked_node c.args.style _ (codes "MatchMapping(") _ (omega arith) refl refl
    (ap (λ z. a_field (codes "keys") keys (a_field (codes "patterns") (shown_pattern_row c.args.patterns.now) z))
    (c.name_part.ensures no_field))
    (c.is_short_mapping.ensures c.args.rest.now)
