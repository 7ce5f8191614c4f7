-- Parameters with their places, as they are read: the defaults are set aside, those in front of the star and then the others.
use Rattle.std.specs.Prelude.{◌≡◌, ℕ, List, Bool, Some}
use Rattle.pytree_node.specs.Trees.{Arguments}
use Rattle.pytoken.specs.declared.values.terminals.Terminal.{Terminal}
use Rattle.pygrammar.specs.Entries.{Entry, Parameter}
use Rattle.pyparse_nodes.specs.declared.parameters.Stage.{Stage}
use Rattle.pyparse_nodes.specs.declared.parameters.Stage.TheVariants as stage
use Rattle.pyparse_nodes.specs.Formals.{start, steps, outcome}
use Rattle.pyparse_nodes.specs.FormalStates.{state_of, entry_of}
use Rattle.pyparse_nodes.specs.Views.{seen}
use Rattle.pyparse_expr.specs.declared.signatures.ReadParameter.{ReadParameter}
use Rattle.pyparse_expr.specs.declared.signatures.Signature.{Signature}
use Rattle.pyplaces.specs.EntryPlaces as E
use Rattle.pyplaces.specs.EntryPlaces.{EntryPlaces}
use Rattle.pyplaces.specs.Placed.{PlacedPiece, PlacedListing}
use Rattle.pyplaces.specs.Recording.{Records, Moves, Kept}
use Rattle.pyplaces.specs.Stretches.{Stretch}

-- how many nodes are set aside up to the last default in front of a star: all, before one stood
abbrev pub defaults_after : Stage → ℕ → ℕ → ℕ
defaults_after stage.Open count aside = aside
defaults_after stage.Closed count aside = aside
defaults_after _ count aside = count

-- What was recorded, and set aside, of a parameter of these places. In front of a `**` those set aside after so many are taken back.
abbrev pub Recorded : {S : Type 0} (after beside : S → Stretch → S) → (S → ℕ) → ℕ → EntryPlaces → S → S → Type 0
Recorded after beside aside_count count (E.Plain ps ds) old new = Kept after beside old ps ds new
Recorded after beside aside_count count (E.Gathered ps) old new = Records after old ps new
Recorded {S} after beside aside_count count (E.Collected ps) old new =
    (middle : S) × Moves after beside aside_count count old middle × Records after middle ps new
Recorded after beside aside_count count _ old new = new ≡ old

-- one parameter from a place on
pub record ParameterPlaced {S : Type 0} (after beside : S → Stretch → S) (aside_count : S → ℕ) (ts : List Terminal) (b : Bool)
    (at count : ℕ) (r : ReadParameter) (old new : S) : Type 0 where
  pub place : EntryPlaces
  pub piece : PlacedPiece (Parameter b) (seen ts at) at (entry_of r.parameter) (seen ts r.next) r.next place
  pub recorded : Recorded after beside aside_count count place old new

-- the defaults of keyword-only parameters are taken back, and then those in front of the star
pub record DefaultsBack {S : Type 0} (after beside : S → Stretch → S) (aside_count : S → ℕ) (count aside : ℕ) (old new : S) : Type 0 where
  pub middle : S
  pub last : Moves after beside aside_count count old middle
  pub first : Moves after beside aside_count aside middle new

-- all parameters; in a wrong order they have no places
pub record SignaturePlaced {S : Type 0} (after : S → Stretch → S) (ts : List Terminal) (b : Bool) (at : ℕ) (r : Signature)
    (old new : S) : Type 0 where
  pub entries : List Entry
  pub places : List EntryPlaces
  pub listing : PlacedListing (Parameter b) (seen ts at) at entries (seen ts r.next) r.next places
  pub state : state_of r.formal ≡ steps start entries
  pub records : (a : Arguments) → outcome (state_of r.formal) ≡ Some a → Records after old (E.arranged places) new
