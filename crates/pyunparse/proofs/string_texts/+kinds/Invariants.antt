use Rattle.std.proofs.Common.{◌≡◌, ◌+◌, ◌*◌, map, drop}
use Rattle.pytree_node.specs.Trees.{exprs, optional}
use Rattle.pytree_node.specs.TreeOf.{boxed_of, tree_of}
use Rattle.pytree_height.specs.Heights.{height, heights, optional_height}
use Rattle.pyunparse_text.specs.Written.{is_unicode}
use Rattle.pyunparse.proofs.string_texts.+kinds.Given as goal

abbrev pub invariant-is_unicode-loop-value : goal.invariant-is_unicode-loop-value
invariant-is_unicode-loop-value l = is_unicode (exprs (map tree_of (drop l.value-index l.values))) ≡ is_unicode
    (exprs (map tree_of l.values))

abbrev pub decreases-is_unicode : goal.decreases-is_unicode
decreases-is_unicode l = 4 * heights (exprs (map tree_of l.values.now)) + 1

abbrev pub decreases-is_unicode_value : goal.decreases-is_unicode_value
decreases-is_unicode_value l = 4 * height (tree_of l.value.now)

abbrev pub decreases-is_unicode_spec : goal.decreases-is_unicode_spec
decreases-is_unicode_spec l = 4 * optional_height (optional (boxed_of l.spec.now)) + 1

abbrev pub decreases-is_unicode_string : goal.decreases-is_unicode_string
decreases-is_unicode_string l = 4 * height (tree_of l.e.now)
