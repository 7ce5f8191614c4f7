-- The arguments of a call with their places, as they are read: those without a name recorded, the others set aside.
use Rattle.std.specs.Prelude.{◌≡◌, ℕ, List, [], ◌∷◌, ◌++◌}
use Rattle.pytoken.specs.declared.values.terminals.Terminal.{Terminal}
use Rattle.pygrammar.specs.Entries.{Entry, Argument}
use Rattle.pyparse_nodes.specs.declared.actual.Actual.{Actual}
use Rattle.pyparse_nodes.specs.declared.actual.ArgumentForm.{ArgumentForm}
use Rattle.pyparse_nodes.specs.declared.actual.ArgumentForm.TheVariants as kind
use Rattle.pyparse_nodes.specs.Views.{seen}
use Rattle.pyparse_expr.specs.Inner.Arguments.{State, start, step, steps, state_of}
use Rattle.pyplaces.specs.EntryPlaces as E
use Rattle.pyplaces.specs.EntryPlaces.{EntryPlaces}
use Rattle.pyplaces.specs.Placed.{PlacedPiece, PlacedListing}
use Rattle.pyplaces.specs.Recording.{Records, Kept}
use Rattle.pyplaces.specs.Stretches.{Stretch}

-- the places of an argument of a kind: those of its expression, and its own stretch
abbrev pub places_of : ArgumentForm → List Stretch → Stretch → EntryPlaces
places_of kind.Single ps s = E.Single ps
places_of kind.Spread ps s = E.Spread ps s
places_of kind.Doubled ps s = E.Doubled ps s
places_of (kind.Keyed x) ps s = E.Keyed ps s

-- one argument from a place on
pub record ArgumentPlaced {S : Type 0} (after beside : S → Stretch → S) (ts : List Terminal) (at : ℕ) (s : State) (r : Actual)
    (old new : S) : Type 0 where
  pub entry : Entry
  pub place : EntryPlaces
  pub piece : PlacedPiece Argument (seen ts at) at entry (seen ts r.next) r.next place
  pub gives : state_of r ≡ step s entry
  pub kept : Kept after beside old (E.positional (place ∷ [])) (E.keywords (place ∷ [])) new

-- some arguments
pub record ArgumentsKept {S : Type 0} (after beside : S → Stretch → S) (ts : List Terminal) (at : ℕ) (s : State) (r : Actual)
    (old new : S) : Type 0 where
  pub entries : List Entry
  pub places : List EntryPlaces
  pub listing : PlacedListing Argument (seen ts at) at entries (seen ts r.next) r.next places
  pub gives : state_of r ≡ steps s entries
  pub kept : Kept after beside old (E.positional places) (E.keywords places) new

-- and those with a name are taken back
pub record ArgumentsPlaced {S : Type 0} (after : S → Stretch → S) (ts : List Terminal) (at : ℕ) (r : Actual)
    (old new : S) : Type 0 where
  pub entries : List Entry
  pub places : List EntryPlaces
  pub listing : PlacedListing Argument (seen ts at) at entries (seen ts r.next) r.next places
  pub gives : state_of r ≡ steps start entries
  pub records : Records after old (E.positional places ++ E.keywords places) new
