-- Patterns that were made.
use Rattle.std.specs.Prelude.{◌≡◌, ℕ, ◌≤◌, ◌<◌, Result, MatchResult}
use Rattle.pytree_node.specs.Trees.{Pattern}
use Rattle.pytree_node.specs.TreeOf.{pattern_of}
use Rattle.pytree_height.specs.Heights.{pattern_height}
use Rattle.pyparse_nodes.specs.declared.stop.Stop.{Stop}
use Rattle.pyparse_nodes.specs.declared.stop.Stop.TheVariants as stop
use Rattle.pyparse_pattern.specs.declared.found.ReadPattern.{ReadPattern}

-- a pattern, and the place after it
pub record MadePattern (room : ℕ) (p : Pattern) (next : ℕ) (r : ReadPattern) : Type 0 where
  pub pattern : pattern_of r.pattern.value ≡ p
  pub next_is : r.next ≡ next
  pub low : r.height ≤ room

-- none was made: it is too high for the room, or there was no memory
abbrev pub UnmadePattern : ℕ → Stop → Pattern → Type 0
UnmadePattern room stop.NoForm p = ⊥
UnmadePattern room stop.TooDeep p = room < pattern_height p
UnmadePattern room stop.Memory p = Unit {0}

abbrev pub MakesPattern : (room : ℕ) → Pattern → (next : ℕ) → Result ReadPattern Stop → Type 0
MakesPattern room p next z = MatchResult z (λ r. MadePattern room p next r) (λ s. UnmadePattern room s p)
