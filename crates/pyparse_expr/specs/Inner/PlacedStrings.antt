-- Literals and f-strings with their places, as they are read and recorded: each text and each field has the place of the whole row.
use Rattle.std.specs.Prelude.{◌≡◌, ℕ, ◌+◌, ◌<◌, Bool, List, ◌∷◌, ◌++◌, []}
use Rattle.pylex_lexeme.specs.declared.kinds.Exact.TheVariants.{LPar}
use Rattle.pyfstring.specs.declared.parts.Conversion.{Conversion}
use Rattle.pytree_node.specs.Trees
use Rattle.pytree_node.specs.Trees.{Expr, OptionalExpr, exprs}
use Rattle.pytree_node.specs.TreeOf.{tree_of}
use Rattle.pytoken.specs.Terminals as tokens
use Rattle.pytoken.specs.declared.values.terminals.Terminal.{Terminal}
use Rattle.pygrammar.specs.declared.levels.Level.TheVariants.{Atom}
use Rattle.pygrammar.specs.FormattedStrings.{StringPart}
use Rattle.pyparse_nodes.specs.declared.found.JoinedValues.{JoinedValues}
use Rattle.pyparse_nodes.specs.declared.found.Read.{Read}
use Rattle.pyparse_nodes.specs.JoinedStates.{ended, state_of, steps}
use Rattle.pyparse_nodes.specs.Views.{Stands, seen}
use Rattle.pyplaces.specs.Placed.{Placed, PlacedFormatted, PlacedLiterals, PlacedSpec}
use Rattle.pyplaces.specs.Recording.{Records}
use Rattle.pyplaces.specs.Rows.{RowSoFar, text_places}
use Rattle.pyplaces.specs.Stretches.{Stretch}
use Rattle.pyplaces.proofs.Loops.{Grows}

-- After this text some parts of a row were read, with the places within each field: the text after the last field then, and the places
-- in front of that text.
pub record RowGrows (row : Stretch) (before : List ℕ) (parts : List StringPart) (fields : List (List Stretch)) (text : List ℕ)
    (more : List Stretch) : Type 0 where
  pub so : (ss : List StringPart) (fs : List (List Stretch)) (ds : List Stretch) → RowSoFar row ss fs before ds
      → RowSoFar row (ss ++ parts) (fs ++ fields) text (ds ++ more)

-- some parts after others; L is what a run of them is
pub record PartsPlaced {S : Type 0} (after : S → Stretch → S)
    (L : List tokens.Terminal → ℕ → List StringPart → List tokens.Terminal → ℕ → List (List Stretch) → Type 0)
    (ts : List Terminal) (u : Bool) (row : Stretch) (before r : JoinedValues) (old new : S) : Type 0 where
  pub parts : List StringPart
  pub fields : List (List Stretch)
  pub more : List Stretch
  pub grows : Grows L (seen ts before.next) before.next parts (seen ts r.next) r.next fields
  pub gives : state_of r ≡ steps u (state_of before) parts
  pub row_grows : RowGrows row before.text parts fields r.text more
  pub records : Records after old more new

-- the parts of an f-string, and its end after them
pub record FormattedPlaced {S : Type 0} (after : S → Stretch → S) (ts : List Terminal) (u : Bool) (row : Stretch) (before r : JoinedValues)
    (old new : S) : Type 0 where
  pub parts : List StringPart
  pub fields : List (List Stretch)
  pub more : List Stretch
  pub last : ℕ
  pub placed : PlacedFormatted u row (seen ts before.next) before.next parts (seen ts last) last fields
  pub closes : Stands tokens.FormattedEnd ts last
  pub next_is : r.next ≡ last + 1
  pub gives : state_of r ≡ steps u (state_of before) parts
  pub row_grows : RowGrows row before.text parts fields r.text more
  pub records : Records after old more new

-- a field from after its begin on, without its own place
pub record FieldPlaced {S : Type 0} (after : S → Stretch → S) (ts : List Terminal) (u : Bool) (c : Conversion) (row : Stretch) (at : ℕ)
    (r : Read) (old new : S) : Type 0 where
  pub value : Expr
  pub spec : OptionalExpr
  pub middle : ℕ
  pub last : ℕ
  pub ps : List Stretch
  pub qs : List Stretch
  pub opens : Stands (tokens.Op LPar) ts at
  pub value_placed : Placed Atom (seen ts at) at value (seen ts middle) middle ps
  pub spec_placed : PlacedSpec u row (seen ts middle) middle spec (seen ts last) last qs
  pub closes : Stands tokens.FieldEnd ts last
  pub tree : tree_of r.expr.value ≡ Trees.FormattedValue value c spec
  pub next_is : r.next ≡ last + 1
  pub records : Records after old (ps ++ qs) new

-- what is in a row from its first f-string on, after a text in front of that, and all places of the row
pub record JoinedPlaced {S : Type 0} (after : S → Stretch → S) (ts : List Terminal) (u : Bool) (row : Stretch) (before : JoinedValues)
    (r : Read) (old new : S) : Type 0 where
  pub parts : List StringPart
  pub fields : List (List Stretch)
  pub text : List ℕ
  pub more : List Stretch
  pub ahead : before.next < r.next
  pub placed : (n : ℕ) → before.next ≡ n + 1
      → PlacedLiterals u row (tokens.FormattedBegin ∷ seen ts before.next) n parts (seen ts r.next) r.next fields
  pub row_grows : RowGrows row before.text parts fields text more
  pub tree : tree_of r.expr.value ≡ Trees.JoinedStr (exprs (ended u (steps u (state_of before) parts)))
  pub records : Records after old (more ++ (text_places row text ++ (row ∷ []))) new
