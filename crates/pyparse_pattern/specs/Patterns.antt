-- What it means that a pattern was read, or none.
use Rattle.std.specs.Prelude.{◌≤◌, List}
use Rattle.pytree_node.specs.Trees.{Pattern}
use Rattle.pytoken.specs.Terminals.{Terminal}
use Rattle.pytree_height.specs.Heights.{pattern_height}
use Rattle.pygrammar.specs.declared.pattern_levels.PatternLevel.{PatternLevel}
use Rattle.pygrammar.specs.PatternGrammar.{DerivesPattern}
use Rattle.pygrammar.specs.PatternMeets.{Patternless, HighPattern}
use Rattle.pyparse_nodes.specs.declared.stop.Stop.{Stop}
use Rattle.pyparse_nodes.specs.declared.stop.Stop.TheVariants as stop

-- the list is this pattern, and its height is at most 500
pub record IsPattern (l : PatternLevel) (ts : List Terminal) (p : Pattern) : Type 0 where
  pub derives : DerivesPattern l ts p
  pub low : pattern_height p ≤ 500

-- The list is no pattern; or none of a height of at most 500; or there was no memory.
abbrev pub RefusedPattern : Stop → PatternLevel → List Terminal → Type 0
RefusedPattern stop.NoForm l ts = Patternless l ts
RefusedPattern stop.TooDeep l ts = HighPattern 500 l ts
RefusedPattern stop.Memory l ts = Unit {0}
