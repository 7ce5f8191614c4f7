-- What the answer of the reader of patterns up to a height means.
use Rattle.std.specs.Prelude.{ℕ, List, [], ◌∷◌, length, ◌≤◌, ◌<◌}
use Rattle.pygrammar.specs.Lengths.{weight}
use Rattle.pygrammar.specs.declared.pattern_levels.PatternLevel.{PatternLevel}
use Rattle.pytree_node.specs.Trees.{Pattern}
use Rattle.pytoken.specs.Terminals.{Terminal}
use Rattle.pytree_height.specs.Heights.{pattern_height}
use Rattle.pygrammar.specs.PatternGrammar.{DerivesPattern}
use Rattle.pygrammar.specs.Reader.{Answer, Found, NoForm, TooDeep}

-- at this level the list is no pattern
abbrev pub Patternless : PatternLevel → List Terminal → Type 0
Patternless l ts = (p : Pattern) → DerivesPattern l ts p → ⊥

-- It is none of a height of at most d; and where it is none at all, it has more than d terminals, and these count d at least.
abbrev pub HighPattern : ℕ → PatternLevel → List Terminal → Type 0
HighPattern d l ts = ((p : Pattern) → DerivesPattern l ts p → d < pattern_height p) × (Patternless l ts → (d < length ts) × (d ≤ weight ts))

-- The whole list is the pattern found, or it is none, or it is none of a height of at most d. The one free choice: for such a list
-- that is no pattern TooDeep may stand for NoForm.
abbrev pub PatternMeets : ℕ → PatternLevel → List Terminal → Answer Pattern → Type 0
PatternMeets d l ts (Found p []) = DerivesPattern l ts p × (pattern_height p ≤ d)
PatternMeets d l ts (Found p (t ∷ r)) = Patternless l ts
PatternMeets d l ts NoForm = Patternless l ts
PatternMeets d l ts TooDeep = HighPattern d l ts
