-- What a loop of the reader has still before it, with its places: what may follow what was read. Each begins by nothing, where none of it
-- stands there.
use Rattle.std.specs.Prelude.{◌≡◌, Some, None, Bool, true, cond, ℕ, ◌+◌, List, [], ◌∷◌, ◌++◌, false}
use Rattle.pylex_lexeme.specs.declared.kinds.Exact.TheVariants.{Colon, Comma, Star, VBar}
use Rattle.pytree_node.specs.declared.operators.BoolOperator.{BoolOperator}
use Rattle.pytree_node.specs.declared.operators.Comparison.{Comparison}
use Rattle.pytree_node.specs.declared.operators.Context.TheVariants.{Load}
use Rattle.pygrammar.specs.declared.levels.Level.TheVariants.{Expression, BitOr, Slice}
use Rattle.pytree_node.specs.Trees as Trees
use Rattle.pytree_node.specs.Trees.{Expr, OptionalExpr, present, Comprehension, Pattern}
use Rattle.pytoken.specs.Terminals.{Terminal, Op, Word}
use Rattle.pygrammar.specs.Operators.{chain_word}
use Rattle.pygrammar.specs.Precedence.{starts_comp}
use Rattle.pygrammar.specs.Entries.{Item, Entry}
use Rattle.pyplaces.specs.Stretches.{Stretch, stretch}
use Rattle.pyplaces.specs.EntryPlaces.{EntryPlaces}
use Rattle.pyplaces.specs.PlacedPatterns.{PlacedAlternatives}
use Rattle.pyplaces.specs.Placed.{Placed, PlacedSuffix, PlacedChain, PlacedCompares, PlacedListing, PlacedComps}

-- this terminal doesn't stand first
abbrev pub Lacks : Terminal → List Terminal → Type 0
Lacks t r = (s : List Terminal) → r ≡ t ∷ s → ⊥

-- after an item of a list: nothing, or a comma and further items
pub data Others (j : Item) : List Terminal → ℕ → List Entry → List Terminal → ℕ → List EntryPlaces → Type 0 where
  no_comma : {r : List Terminal} {at : ℕ} → Lacks (Op Comma) r → Others j r at [] r at []
  commas : {i r s : List Terminal} {at following : ℕ} {es : List Entry} {ps : List EntryPlaces}
      → i ≡ Op Comma ∷ r → PlacedListing j r (at + 1) es s following ps → Others j i at es s following ps

-- after a side of `and` or `or`: nothing, or the word and further sides
pub data Links (o : BoolOperator) : List Terminal → ℕ → List Expr → List Terminal → ℕ → List Stretch → Type 0 where
  no_word : {r : List Terminal} {at : ℕ} → Lacks (Word (chain_word o)) r → Links o r at [] r at []
  words : {i r s : List Terminal} {at following : ℕ} {es : List Expr} {ps : List Stretch}
      → i ≡ Word (chain_word o) ∷ r → PlacedChain o r (at + 1) es s following ps → Links o i at es s following ps

-- after a side of comparisons
pub data Sides : List Terminal → ℕ → List Comparison → List Expr → List Terminal → ℕ → List Stretch → Type 0 where
  no_sign : {r : List Terminal} {at : ℕ} → Sides r at [] [] r at []
  signs : {i r : List Terminal} {at following : ℕ} {o : Comparison} {os : List Comparison} {e : Expr} {es : List Expr} {ps : List Stretch}
      → PlacedCompares i at (o ∷ os) (e ∷ es) r following ps → Sides i at (o ∷ os) (e ∷ es) r following ps

-- after the element of a comprehension, or a clause of it
pub data Clauses : List Terminal → ℕ → List Comprehension → List Terminal → ℕ → List Stretch → Type 0 where
  no_clause : {r : List Terminal} {at : ℕ} → starts_comp r ≡ false → Clauses r at [] r at []
  clauses : {i r : List Terminal} {at following : ℕ} {gs : List Comprehension} {ps : List Stretch}
      → PlacedComps i at gs r following ps → Clauses i at gs r following ps

-- after an alternative of a pattern
pub data Bars : List Terminal → ℕ → List Pattern → List Terminal → ℕ → List Stretch → Type 0 where
  no_bar : {r : List Terminal} {at : ℕ} → Lacks (Op VBar) r → Bars r at [] r at []
  bars : {i r s : List Terminal} {at following : ℕ} {xs : List Pattern} {ps : List Stretch}
      → i ≡ Op VBar ∷ r → PlacedAlternatives r (at + 1) xs s following ps → Bars i at xs s following ps

-- ---- A part of a subscript, with what stands first: a starred one alone makes a Tuple.

pub data PlacedPart : List Terminal → ℕ → Expr → List Terminal → ℕ → List Stretch → Type 0 where
  starred : {i r s : List Terminal} {at following : ℕ} {e : Expr} {ps : List Stretch} → i ≡ Op Star ∷ r
      → Placed Expression r (at + 1) e s following ps → PlacedPart i at (Trees.Starred e Load) s following (ps ++ (stretch at following ∷ []))
  unstarred : {i r : List Terminal} {at following : ℕ} {e : Expr} {ps : List Stretch} → Lacks (Op Star) i → Placed Slice i at e r following ps
      → PlacedPart i at e r following ps

-- ---- What stands after the NAME of a `*` parameter: an annotation, or one with a star.

pub data StarSuffix : Bool → List Terminal → ℕ → OptionalExpr → List Terminal → ℕ → List Stretch → Type 0 where
  plain_suffix : {b : Bool} {i r : List Terminal} {at following : ℕ} {e : OptionalExpr} {ps : List Stretch}
      → PlacedSuffix (cond b (Some Colon) None) i at e r following ps → StarSuffix b i at e r following ps
  star_suffix : {i r s u : List Terminal} {at following : ℕ} {e : Expr} {ps : List Stretch} → i ≡ Op Colon ∷ r → r ≡ Op Star ∷ s
      → Placed BitOr s (at + 1 + 1) e u following ps
      → StarSuffix true i at (present (Trees.Starred e Load)) u following (ps ++ (stretch (at + 1) following ∷ []))
