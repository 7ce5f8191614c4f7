-- The value of a pattern with a name, by what stands in front of its `as`.
--
-- Carries: make_capture, make_as. On: the shapes of patterns.
use Rattle.std.proofs.Common.{◌≡◌, Global, Option, Some, None}
use Rattle.std.specs.declared.boxed.Box.{Box}
use Rattle.pytree_node.specs.declared.patterns.Pattern.{Pattern}
use Rattle.pytree_node.specs.declared.patterns.Pattern.TheVariants as variant
use Rattle.pytree_node.specs.Trees.{Identifier, MatchAs, absent_pattern, present_pattern}
use Rattle.pytree_node.specs.TreeOf.{pattern_of}
use Rattle.pytree_node.proofs.Callers.PatternShapes.{match_as_tree}

pub capture_tree : (name : Option Identifier) → pattern_of (variant.MatchAs None name) ≡ MatchAs absent_pattern name
capture_tree name = match_as_tree None name

pub as_tree : (p : Box Pattern Global) (name : Option Identifier) → pattern_of (variant.MatchAs (Some p) name) ≡ MatchAs
    (present_pattern (pattern_of p.value)) name
as_tree p name = match_as_tree (Some p) name
