-- The value of each class of pattern, of its children's values.
--
-- Carries: what is proved of `pattern_of` in the crates above.
use Rattle.std.proofs.Common.{◌≡◌, map, refl, ◌∙◌, Global, Option, None, Some}
use Rattle.std.specs.declared.vec.Vec.{Vec}
use Rattle.std.specs.declared.boxed.Box.{Box}
use Rattle.pytree_node.specs.declared.constants.Constant.{Constant}
use Rattle.pytree_node.specs.declared.expressions.Expr.{Expr}
use Rattle.pytree_node.specs.declared.patterns.Pattern as given_pattern
use Rattle.pytree_node.specs.declared.patterns.Pattern.{Pattern}
use Rattle.pytree_node.specs.declared.patterns.Pattern.TheVariants as variant
use Rattle.pytree_node.specs.declared.patterns.Pattern.TheOpen as layer
use Rattle.pytree_node.specs.declared.patterns.Pattern.TheShapes as shape
use Rattle.pytree_node.specs.Trees as plain
use Rattle.pytree_node.specs.Trees.{Identifier, patterns, optional_pattern}
use Rattle.pytree_node.specs.TreeOf.{tree_of, constant_of, boxed, pattern_of, boxed_pattern_of, pattern_step}

-- one pattern, whose inner patterns are patterns of the program
abbrev Layer : Type 0
Layer = layer.Pattern-F Pattern

-- the pattern with its inner patterns' values in their places
abbrev valued : Layer → layer.Pattern-F plain.Pattern
valued = given_pattern.map-Pattern Pattern plain.Pattern pattern_of

rolls : (node : Layer) → pattern_of (given_pattern.roll-Pattern node) ≡ pattern_step (valued node)
unfolding pattern_of
rolls = given_pattern.fold-roll-Pattern plain.Pattern pattern_step

boxed_is : (o : Option (Box Pattern Global))
    → boxed ((shape.former-Pattern-MatchAs-0).map Pattern plain.Pattern pattern_of o) ≡ boxed_pattern_of o
boxed_is None = refl
boxed_is (Some b) = refl

pub match_value_tree : (value : Expr) →
    pattern_of (variant.MatchValue value) ≡ plain.MatchValue (tree_of value)
unfolding given_pattern.roll-Pattern denote.Hole.Carrier.roll
match_value_tree value = rolls (layer.MatchValue value)

pub match_singleton_tree : (value : Constant) →
    pattern_of (variant.MatchSingleton value) ≡ plain.MatchSingleton (constant_of value)
unfolding given_pattern.roll-Pattern denote.Hole.Carrier.roll
match_singleton_tree value = rolls (layer.MatchSingleton value)

pub match_sequence_tree : (inner : Vec Pattern Global) →
    pattern_of (variant.MatchSequence inner) ≡ plain.MatchSequence (patterns (map pattern_of inner.items))
unfolding given_pattern.roll-Pattern denote.Hole.Carrier.roll
match_sequence_tree inner = rolls (layer.MatchSequence inner)

pub match_mapping_tree : (keys : Vec Expr Global) (inner : Vec Pattern Global) (rest : Option Identifier) →
    pattern_of (variant.MatchMapping keys inner rest) ≡ plain.MatchMapping (map tree_of keys.items)
    (patterns (map pattern_of inner.items)) rest
unfolding given_pattern.roll-Pattern denote.Hole.Carrier.roll
match_mapping_tree keys inner rest = rolls (layer.MatchMapping keys inner rest)

pub match_class_tree : (cls : Box Expr Global) (inner : Vec Pattern Global) (names : Vec Identifier Global) (named : Vec Pattern Global) →
    pattern_of (variant.MatchClass cls inner names named) ≡ plain.MatchClass (tree_of cls.value) (patterns (map pattern_of inner.items))
    names.items (patterns (map pattern_of named.items))
unfolding given_pattern.roll-Pattern denote.Hole.Carrier.roll
match_class_tree cls inner names named = rolls (layer.MatchClass cls inner names named)

pub match_star_tree : (name : Option Identifier) →
    pattern_of (variant.MatchStar name) ≡ plain.MatchStar name
unfolding given_pattern.roll-Pattern denote.Hole.Carrier.roll
match_star_tree name = rolls (layer.MatchStar name)

pub match_as_tree : (inner : Option (Box Pattern Global)) (name : Option Identifier) →
    pattern_of (variant.MatchAs inner name) ≡ plain.MatchAs (optional_pattern (boxed_pattern_of inner)) name
unfolding given_pattern.roll-Pattern denote.Hole.Carrier.roll
match_as_tree inner name = rolls (layer.MatchAs inner name) ∙ (λ i. plain.MatchAs (optional_pattern (boxed_is inner i)) name)

pub match_or_tree : (inner : Vec Pattern Global) →
    pattern_of (variant.MatchOr inner) ≡ plain.MatchOr (patterns (map pattern_of inner.items))
unfolding given_pattern.roll-Pattern denote.Hole.Carrier.roll
match_or_tree inner = rolls (layer.MatchOr inner)

-- the value of every pattern
pub ruleset pattern_shapes = (
  match_value_tree,
  match_singleton_tree,
  match_sequence_tree,
  match_mapping_tree,
  match_class_tree,
  match_star_tree,
  match_as_tree,
  match_or_tree,
)
