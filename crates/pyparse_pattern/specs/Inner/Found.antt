-- Parts of a pattern that were found.
use Rattle.std.specs.Prelude.{◌≡◌, ℕ, ◌≤◌, ◌++◌, ◌∷◌, ◌⊎◌, List, length, map, MatchResult, None, Result}
use Rattle.pylex_lexeme.specs.declared.kinds.Exact.TheVariants.{Dot, LPar}
use Rattle.pytree_node.specs.Trees.{Pattern}
use Rattle.pytree_node.specs.TreeOf.{pattern_of}
use Rattle.pytoken.specs.Terminals.{Op}
use Rattle.pytoken.specs.declared.values.terminals.Terminal.{Terminal}
use Rattle.pygrammar.specs.Looks.{is_op}
use Rattle.pygrammar.specs.PatternEntries.{PatternEntry}
use Rattle.pygrammar.specs.Reader.{Answer, Found}
use Rattle.pyparse_nodes.specs.declared.stop.Stop.{Stop}
use Rattle.pyparse_nodes.specs.Answers.{Failed}
use Rattle.pyparse_nodes.specs.Views.{Stands, first_is, seen}
use Rattle.pyparse_pattern.specs.declared.entries.Entries.{Entries}
use Rattle.pyparse_pattern.specs.declared.entries.ReadEntry.{ReadEntry}
use Rattle.pyparse_pattern.specs.declared.found.Patterns.{Patterns}
use Rattle.pyparse_pattern.specs.Inner.Entries.{alone_in, entry_of}

-- an entry found at a place, or none, for the reader's reason
pub record EntryAt (ts : List Terminal) (room least : ℕ) (x : Answer PatternEntry) (r : ReadEntry) : Type 0 where
  pub ahead : least ≤ r.next
  pub within : r.next ≤ length ts
  pub low : r.height ≤ room
  pub is : x ≡ Found (entry_of r.entry) (seen ts r.next)

abbrev pub EntryAnswered : List Terminal → (room least : ℕ) → Answer PatternEntry → Result ReadEntry Stop → Type 0
EntryAnswered ts room least x z = MatchResult z (λ r. EntryAt ts room least x r) (λ s. Failed s x)

-- those of a list
pub record EntriesAt (ts : List Terminal) (room least : ℕ) (x : Answer (List PatternEntry)) (r : Entries) : Type 0 where
  pub ahead : least ≤ r.next
  pub within : r.next ≤ length ts
  pub low : r.height ≤ room
  pub is : x ≡ Found (map entry_of r.items.items) (seen ts r.next)

abbrev pub EntriesAnswered : List Terminal → (room least : ℕ) → Answer (List PatternEntry) → Result Entries Stop → Type 0
EntriesAnswered ts room least x z = MatchResult z (λ r. EntriesAt ts room least x r) (λ s. Failed s x)

-- the patterns of a sequence, after some that were read
pub record ElementsAt (ts : List Terminal) (least : ℕ) (before : List Pattern) (x : Answer (List PatternEntry))
    (r : Patterns) : Type 0 where
  pub ahead : least ≤ r.next
  pub within : r.next ≤ length ts
  pub entries : List PatternEntry
  pub is : x ≡ Found entries (seen ts r.next)
  pub gives : map pattern_of r.items.items ≡ before ++ alone_in entries

abbrev pub ElementsAnswered : List Terminal → (least : ℕ) → List Pattern → Answer (List PatternEntry) → Result Patterns Stop → Type 0
ElementsAnswered ts least before x z = MatchResult z (λ r. ElementsAt ts least before x r) (λ s. Failed s x)

-- alternatives after some that were read
pub record AlternativesAt (ts : List Terminal) (least : ℕ) (p : Pattern) (x : Answer (List Pattern)) (r : Patterns) : Type 0 where
  pub ahead : least ≤ r.next
  pub within : r.next ≤ length ts
  pub others : List Pattern
  pub is : x ≡ Found others (seen ts r.next)
  pub gives : map pattern_of r.items.items ≡ p ∷ others

-- a name alone: neither a point nor a bracket is after it; or one of them is
pub record IsUnqualified (ts : List Terminal) (at : ℕ) : Type 0 where
  pub point : None ≡ first_is (is_op Dot) (seen ts at)
  pub bracket : None ≡ first_is (is_op LPar) (seen ts at)

abbrev pub IsQualified : List Terminal → ℕ → Type 0
IsQualified ts at = Stands (Op Dot) ts at ⊎ Stands (Op LPar) ts at
