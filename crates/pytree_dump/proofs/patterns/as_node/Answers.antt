use Rattle.std.proofs.Common.{arith, refl, codes, ◌∙◌}
use Rattle.pytree_node.specs.Trees.{optional_pattern}
use Rattle.pytree_node.specs.TreeOf.{boxed_pattern_of}
use Rattle.pytree_dump_text.specs.Shows.{no_field, pattern_field}
use Rattle.std.proofs.Common.{ap}
use Rattle.pytree_dump.proofs.NodeLemmas.{marked_node}
use Rattle.pytree_dump.proofs.patterns.as_node.Goals as goal

pub returns : goal.returns
returns c =
    marked_node c.args.style _ (codes "MatchAs(") _ (omega arith) refl refl
    (c.pattern_part.ensures _
    ∙ ap (λ z. pattern_field (codes "pattern") (optional_pattern (boxed_pattern_of c.args.pattern.now)) z) (c.name_part.ensures no_field))
    (c.is_short_as.ensures c.args.name.now)
