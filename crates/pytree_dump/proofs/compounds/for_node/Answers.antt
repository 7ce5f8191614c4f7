use Rattle.std.proofs.Common.{arith, refl, codes, true}
use Rattle.pytree_node.specs.TreeOf.{tree_of}
use Rattle.pytree_dump_text.specs.Blocks.{shown_block}
use Rattle.pytree_dump_text.specs.Shows.{Fields, a_field, left_out, no_field, shown}
use Rattle.pytree_marked.proofs.Callers.Shortness.{four_or_more}
use Rattle.pytree_dump.proofs.NodeLemmas.{long_node}
use Rattle.pytree_dump.proofs.compounds.for_node.Goals as goal

pub returns : goal.returns
returns c =
    let p = c.args.style.profile in
    let fs : Fields = a_field (codes "target") (shown (tree_of c.args.target.now)) (a_field (codes "iter") (shown (tree_of c.args.iter.now))
    (a_field (codes "body") (shown_block p c.args.body.now)
    (a_field (codes "orelse") (shown_block p c.args.orelse.now) (left_out no_field)))) in
    long_node true c.args.style _ c.args.class.now fs (omega arith) refl refl refl c.is_flat.ensures (four_or_more fs 0 refl)
