-- Parts of a pattern that were read and recorded, with their places.
use Rattle.std.specs.Prelude.{◌≡◌, ℕ, ◌+◌, List, [], ◌∷◌, ◌++◌, map}
use Rattle.pylex_lexeme.specs.declared.kinds.Exact.{Exact}
use Rattle.pylex_lexeme.specs.declared.kinds.Exact.TheVariants.{RPar}
use Rattle.pytree_node.specs.Trees.{Pattern, MatchSequence, patterns}
use Rattle.pytree_node.specs.TreeOf.{pattern_of, tree_of}
use Rattle.pytree_node.specs.Values.{Value}
use Rattle.pytoken.specs.Terminals.{Op}
use Rattle.pytoken.specs.declared.values.terminals.Terminal.{Terminal}
use Rattle.pygrammar.specs.PatternEntries.{Element, PatternEntry, PatternItem}
use Rattle.pygrammar.specs.PatternOperators.{is_imaginary}
use Rattle.pyparse_nodes.specs.Views.{Stands, seen}
use Rattle.pyparse_pattern.specs.declared.entries.Entries.{Entries}
use Rattle.pyparse_pattern.specs.declared.entries.ReadEntry.{ReadEntry}
use Rattle.pyparse_pattern.specs.declared.found.Patterns.{Patterns}
use Rattle.pyparse_pattern.specs.declared.found.ReadPattern.{ReadPattern}
use Rattle.pyparse_pattern.specs.declared.numbers.Number.{Number}
use Rattle.pyparse_pattern.specs.Inner.Entries.{alone_in, entry_of}
use Rattle.pyplaces.specs.Stretches.{Stretch, stretch}
use Rattle.pyplaces.specs.PatternPlaces as E
use Rattle.pyplaces.specs.PatternPlaces.{EntryPlaces}
use Rattle.pyplaces.specs.PlacedPatterns.{PlacedEntries, PlacedEntry, PlacedNumber}
use Rattle.pyplaces.specs.Recording.{Kept, Records}
use Rattle.pyplaces.specs.Rests.{Bars}

-- ---- Entries: what is recorded as they are read, and what is set aside, which is the pattern after each key.

abbrev pub front : EntryPlaces → List Stretch
front (E.Alone ps) = ps
front (E.Keyed ks ps) = ks
front E.Rest = []
front (E.Named ps) = ps

abbrev pub following : EntryPlaces → List Stretch
following (E.Keyed ks ps) = ps
following _ = []

abbrev pub fronts : List EntryPlaces → List Stretch
fronts [] = []
fronts (e ∷ es) = front e ++ fronts es

abbrev pub followings : List EntryPlaces → List Stretch
followings [] = []
followings (e ∷ es) = following e ++ followings es

pub record EntryPlaced {S : Type 0} (after beside : S → Stretch → S) (ts : List Terminal) (i : PatternItem) (at : ℕ) (r : ReadEntry)
    (old new : S) : Type 0 where
  pub place : EntryPlaces
  pub piece : PlacedEntry i (seen ts at) at (entry_of r.entry) (seen ts r.next) r.next place
  pub kept : Kept after beside old (front place) (following place) new

pub record EntriesPlaced {S : Type 0} (after beside : S → Stretch → S) (ts : List Terminal) (i : PatternItem) (at : ℕ) (r : Entries)
    (old new : S) : Type 0 where
  pub places : List EntryPlaces
  pub listing : PlacedEntries i (seen ts at) at (map entry_of r.items.items) (seen ts r.next) r.next places
  pub kept : Kept after beside old (fronts places) (followings places) new

-- ---- Numbers with their sign.

pub record SignedPlaced {S : Type 0} (after : S → Stretch → S) (ts : List Terminal) (at : ℕ) (n : Number) (old new : S) : Type 0 where
  pub value : Value
  pub places : List Stretch
  pub imaginary : n.imaginary ≡ is_imaginary value
  pub placed : PlacedNumber value (seen ts at) at (tree_of n.read.expr.value) (seen ts n.read.next) n.read.next places
  pub records : Records after old places new

-- ---- Patterns: of a sequence, after some that were read; alternatives after a first one; and what its bracket ends.

pub record ElementsPlaced {S : Type 0} (after : S → Stretch → S) (ts : List Terminal) (at : ℕ) (before : List Pattern) (r : Patterns)
    (old new : S) : Type 0 where
  pub entries : List PatternEntry
  pub places : List EntryPlaces
  pub gives : map pattern_of r.items.items ≡ before ++ alone_in entries
  pub listing : PlacedEntries Element (seen ts at) at entries (seen ts r.next) r.next places
  pub records : Records after old (E.alone places) new

pub record AlternativesPlaced {S : Type 0} (after : S → Stretch → S) (ts : List Terminal) (at : ℕ) (p : Pattern)
    (r : Patterns) (old new : S)
    : Type 0 where
  pub others : List Pattern
  pub places : List Stretch
  pub gives : map pattern_of r.items.items ≡ p ∷ others
  pub bars : Bars (seen ts at) at others (seen ts r.next) r.next places
  pub records : Records after old places new

pub record BracketedPlaced {S : Type 0} (after : S → Stretch → S) (ts : List Terminal) (sign : Exact) (begin : ℕ) (ps : Patterns)
    (r : ReadPattern) (old new : S) : Type 0 where
  pub stands : Stands (Op sign) ts ps.next
  pub tree : pattern_of r.pattern.value ≡ MatchSequence (patterns (map pattern_of ps.items.items))
  pub next_is : r.next ≡ ps.next + 1
  pub records : Records after old (stretch begin (ps.next + 1) ∷ []) new

pub record GroupedPlaced (ts : List Terminal) (e r : ReadPattern) : Type 0 where
  pub stands : Stands (Op RPar) ts e.next
  pub same : pattern_of r.pattern.value ≡ pattern_of e.pattern.value
  pub next_is : r.next ≡ e.next + 1
