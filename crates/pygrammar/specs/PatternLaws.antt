-- What holds of the grammar of patterns.
use Rattle.std.specs.Prelude.{◌≡◌, ◌↔◌, ◌⊎◌, ℕ, ◌+◌, ◌≤◌, List, []}
use Rattle.pygrammar.specs.Lengths.{weight}
use Rattle.pygrammar.specs.declared.levels.Level.TheVariants.{Sum}
use Rattle.pygrammar.specs.declared.pattern_levels.PatternLevel.{PatternLevel}
use Rattle.pytree_node.specs.Trees.{Expr, Pattern}
use Rattle.pytree_height.specs.Heights.{pattern_height}
use Rattle.pytoken.specs.Terminals.{Terminal}
use Rattle.pygrammar.specs.Grammar.{Derives}
use Rattle.pygrammar.specs.Reader.{Found}
use Rattle.pygrammar.specs.PatternGrammar.{LiteralOf, KeyOf, ClassOf, DerivesPattern}
use Rattle.pygrammar.specs.PatternReader.{limit_pattern}
use Rattle.pygrammar.specs.PatternMeets.{Patternless, PatternMeets}

-- at a level a list of terminals is at most one pattern
abbrev pub PatternsAreUnique : Type 0
PatternsAreUnique = (l : PatternLevel) (ts : List Terminal) (p q : Pattern) → DerivesPattern l ts p → DerivesPattern l ts q → p ≡ q

-- at a level a list of terminals is a pattern, or none
abbrev pub PatternsAreDecided : Type 0
PatternsAreDecided = (l : PatternLevel) (ts : List Terminal) → ((p : Pattern) × DerivesPattern l ts p) ⊎ Patternless l ts

-- `1` is a MatchValue of a Constant: a pattern is at most one higher than its terminals count
abbrev pub PatternHeightsAreBounded : Type 0
PatternHeightsAreBounded = (l : PatternLevel) (ts : List Terminal) (p : Pattern) → DerivesPattern l ts p → pattern_height p ≤ 1 + weight ts

-- within a height the reader gives a list's pattern exactly where that is no higher
abbrev pub PatternLimitIsExact : Type 0
PatternLimitIsExact = (d : ℕ) (l : PatternLevel) (ts : List Terminal) (p : Pattern) →
    (DerivesPattern l ts p × (pattern_height p ≤ d)) ↔ (limit_pattern d l ts ≡ Found p [])

-- and each of its answers means what `PatternMeets` says
abbrev pub PatternLimitMeets : Type 0
PatternLimitMeets = (d : ℕ) (l : PatternLevel) (ts : List Terminal) → PatternMeets d l ts (limit_pattern d l ts)

-- literals, classes and keys are expressions: those of the same terminals at Sum
pub record AreExpressions (ts : List Terminal) (e : Expr) : Type 0 where
  pub literal : LiteralOf ts e → Derives Sum ts e
  pub class : ClassOf ts e → Derives Sum ts e
  pub key : KeyOf ts e → Derives Sum ts e

abbrev pub ValuesAreExpressions : Type 0
ValuesAreExpressions = (ts : List Terminal) (e : Expr) → AreExpressions ts e

-- the laws of the grammar of patterns
pub record PatternsAreLawful : Type 0 where
  pub unique : PatternsAreUnique
  pub decided : PatternsAreDecided
  pub bounded : PatternHeightsAreBounded
  pub limited : PatternLimitIsExact
  pub meets : PatternLimitMeets
  pub values : ValuesAreExpressions
