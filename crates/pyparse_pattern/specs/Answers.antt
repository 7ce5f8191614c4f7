-- What the program's answers say of the reader of patterns.
use Rattle.std.specs.Prelude.{◌≡◌, ℕ, ◌≤◌, List, length, Result, MatchResult}
use Rattle.pytree_node.specs.Trees.{Pattern}
use Rattle.pytree_node.specs.TreeOf.{pattern_of}
use Rattle.pytoken.specs.declared.values.terminals.Terminal.{Terminal}
use Rattle.pygrammar.specs.PatternReader.{PatternReads, capped_pattern}
use Rattle.pygrammar.specs.Reader.{Answer, Found}
use Rattle.pyparse_nodes.specs.declared.stop.Stop.{Stop}
use Rattle.pyparse_nodes.specs.Answers.{Failed}
use Rattle.pyparse_nodes.specs.Views.{seen}
use Rattle.pyparse_reads.specs.declared.depth.Depth.{Depth}
use Rattle.pyparse_pattern.specs.declared.found.ReadPattern.{ReadPattern}

-- the reader of patterns, with the steps and the room of a depth
abbrev pub reads : Depth → PatternReads
reads d = capped_pattern d.steps d.room

-- a pattern found at a place of a list
pub record PatternAt (ts : List Terminal) (room least : ℕ) (x : Answer Pattern) (r : ReadPattern) : Type 0 where
  pub ahead : least ≤ r.next
  pub within : r.next ≤ length ts
  pub low : r.height ≤ room
  pub is : x ≡ Found (pattern_of r.pattern.value) (seen ts r.next)

-- a pattern is the reader's answer, and no higher than the room; or there is none, for the reader's reason
abbrev pub PatternAnswered : List Terminal → (room least : ℕ) → Answer Pattern → Result ReadPattern Stop → Type 0
PatternAnswered ts room least x z = MatchResult z (λ r. PatternAt ts room least x r) (λ s. Failed s x)
