-- What a reader that records says: what it found at the front of some terminals, and the places that it recorded.
use Rattle.std.specs.Prelude.{◌≡◌, ℕ, ◌+◌, List, ◌++◌, length, Option, Bool}
use Rattle.pylex_lexeme.specs.declared.kinds.Exact.{Exact}
use Rattle.pytree_node.specs.declared.operators.BoolOperator.{BoolOperator}
use Rattle.pytree_node.specs.declared.operators.Comparison.{Comparison}
use Rattle.pytree_node.specs.Trees.{Expr, OptionalExpr, Comprehension}
use Rattle.pytoken.specs.Terminals.{Terminal}
use Rattle.pygrammar.specs.declared.levels.Level.{Level}
use Rattle.pygrammar.specs.FormattedStrings.{StringPart}
use Rattle.pygrammar.specs.Entries.{Item, Entry}
use Rattle.pygrammar.specs.Grammar as G
use Rattle.pyplaces.specs.Stretches.{Stretch}
use Rattle.pyplaces.specs.EntryPlaces.{EntryPlaces}
use Rattle.pyplaces.specs.ExpressionPlaces as places

-- Of i, which begins after `at` terminals of the line, the front up to r has such a derivation, and these are the places of it.
pub record ReadAs {P : Type 0} (X : List Terminal → Type 0) (f : (ts : List Terminal) → ℕ → X ts → P) (i : List Terminal) (at : ℕ)
    (r : List Terminal) (following : ℕ) (ps : P) : Type 0 where
  pub front : List Terminal
  pub is : i ≡ front ++ r
  pub ends : at + length front ≡ following
  pub derived : X front
  pub places_are : f front at derived ≡ ps

-- an expression of this level
abbrev pub Placed : Level → List Terminal → ℕ → Expr → List Terminal → ℕ → List Stretch → Type 0
Placed l i at e r following ps = ReadAs (λ ts. G.Derives l ts e) (λ ts. places.places) i at r following ps

-- ---- Parts of expressions.

-- the yield forms, after the word
abbrev pub PlacedYields : List Terminal → ℕ → Expr → List Terminal → ℕ → List Stretch → Type 0
PlacedYields i at e r following ps = ReadAs (λ ts. G.Yields ts e) (λ ts. places.yield_places) i at r following ps

abbrev pub PlacedPerhaps : Level → List Terminal → ℕ → OptionalExpr → List Terminal → ℕ → List Stretch → Type 0
PlacedPerhaps l i at e r following ps = ReadAs (λ ts. G.Perhaps l ts e) (λ ts. places.perhaps_places) i at r following ps

abbrev pub PlacedSuffix : Option Exact → List Terminal → ℕ → OptionalExpr → List Terminal → ℕ → List Stretch → Type 0
PlacedSuffix s i at e r following ps = ReadAs (λ ts. G.Suffix s ts e) (λ ts. places.suffix_places) i at r following ps

abbrev pub PlacedChain : BoolOperator → List Terminal → ℕ → List Expr → List Terminal → ℕ → List Stretch → Type 0
PlacedChain o i at es r following ps = ReadAs (λ ts. G.Chain o ts es) (λ ts. places.chain_places) i at r following ps

abbrev pub PlacedCompares : List Terminal → ℕ → List Comparison → List Expr → List Terminal → ℕ → List Stretch → Type 0
PlacedCompares i at os es r following ps = ReadAs (λ ts. G.Compares ts os es) (λ ts. places.compares_places) i at r following ps

-- the sign of a comparison, which has no place
abbrev pub PlacedSign : List Terminal → ℕ → Comparison → List Terminal → ℕ → Type 0
PlacedSign i at o r following = ReadAs (λ ts. G.Compared ts o) (λ ts n c. tt {0}) i at r following (tt {0})

-- literals and f-strings side by side, in a row of this place, with the places within each field
abbrev pub PlacedLiterals : Bool → Stretch → List Terminal → ℕ → List StringPart → List Terminal → ℕ → List (List Stretch) → Type 0
PlacedLiterals u row i at ss r following fs = ReadAs (λ ts. G.Literals u ts ss) (λ ts. places.literals_places row) i at r following fs

abbrev pub PlacedFormatted : Bool → Stretch → List Terminal → ℕ → List StringPart → List Terminal → ℕ → List (List Stretch) → Type 0
PlacedFormatted u row i at ss r following fs = ReadAs (λ ts. G.Formatted u ts ss) (λ ts. places.formatted_places row) i at r following fs

abbrev pub PlacedSpec : Bool → Stretch → List Terminal → ℕ → OptionalExpr → List Terminal → ℕ → List Stretch → Type 0
PlacedSpec u row i at e r following ps = ReadAs (λ ts. G.Spec u ts e) (λ ts. places.spec_places row) i at r following ps

-- what stands between commas, and one of it
abbrev pub PlacedListing : Item → List Terminal → ℕ → List Entry → List Terminal → ℕ → List EntryPlaces → Type 0
PlacedListing j i at es r following ps = ReadAs (λ ts. G.Listing j ts es) (λ ts. places.listing_places) i at r following ps

abbrev pub PlacedPiece : Item → List Terminal → ℕ → Entry → List Terminal → ℕ → EntryPlaces → Type 0
PlacedPiece j i at e r following p = ReadAs (λ ts. G.Piece j ts e) (λ ts. places.piece_places) i at r following p

-- the clauses of a comprehension
abbrev pub PlacedComps : List Terminal → ℕ → List Comprehension → List Terminal → ℕ → List Stretch → Type 0
PlacedComps i at gs r following ps = ReadAs (λ ts. G.Comps ts gs) (λ ts. places.comps_places) i at r following ps

abbrev pub PlacedComp : List Terminal → ℕ → Comprehension → List Terminal → ℕ → List Stretch → Type 0
PlacedComp i at g r following ps = ReadAs (λ ts. G.Comp ts g) (λ ts. places.comp_places) i at r following ps

abbrev pub PlacedForIn : Bool → List Terminal → ℕ → Comprehension → List Terminal → ℕ → List Stretch → Type 0
PlacedForIn b i at g r following ps = ReadAs (λ ts. G.ForIn b ts g) (λ ts. places.for_places) i at r following ps

abbrev pub PlacedIfs : List Terminal → ℕ → List Expr → List Terminal → ℕ → List Stretch → Type 0
PlacedIfs i at es r following ps = ReadAs (λ ts. G.Ifs ts es) (λ ts. places.ifs_places) i at r following ps

-- ---- Targets.

abbrev pub PlacedTarget : List Terminal → ℕ → Expr → List Terminal → ℕ → List Stretch → Type 0
PlacedTarget i at e r following ps = ReadAs (λ ts. G.Target ts e) (λ ts. places.target_places) i at r following ps

abbrev pub PlacedSingleTarget : List Terminal → ℕ → Expr → List Terminal → ℕ → List Stretch → Type 0
PlacedSingleTarget i at e r following ps = ReadAs (λ ts. G.SingleTarget ts e) (λ ts. places.single_target_places) i at r following ps

abbrev pub PlacedDelTarget : List Terminal → ℕ → Expr → List Terminal → ℕ → List Stretch → Type 0
PlacedDelTarget i at e r following ps = ReadAs (λ ts. G.DelTarget ts e) (λ ts. places.del_target_places) i at r following ps

abbrev pub PlacedItemTarget : List Terminal → ℕ → Expr → List Terminal → ℕ → List Stretch → Type 0
PlacedItemTarget i at e r following ps = ReadAs (λ ts. G.ItemTarget ts e) (λ ts. places.item_target_places) i at r following ps
