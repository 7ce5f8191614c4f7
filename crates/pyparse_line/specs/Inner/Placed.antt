-- Lines that were read and recorded, with their places in three runs.
use Rattle.std.specs.Prelude.{◌≡◌, ℕ, ◌+◌, List, [], ◌++◌, Bool, Option, Some, None}
use Rattle.pylex_lexeme.specs.declared.kinds.Exact.TheVariants.{Colon}
use Rattle.pytree_node.specs.declared.profiles.Profile.{Profile}
use Rattle.pytree_node.specs.Trees.{Stmt}
use Rattle.pytoken.specs.Terminals as tokens
use Rattle.pytoken.specs.Terminals.{Op}
use Rattle.pytoken.specs.declared.values.terminals.Terminal.{Terminal}
use Rattle.pygrammar.specs.FormOf.{form_of, header_of, suite_of}
use Rattle.pyparse_nodes.specs.Views.{Stands, seen}
use Rattle.pyplaces.specs.FormPlaces.{FormPlaces, form_places}
use Rattle.pyplaces.specs.PlacedForms.{PlacedCase, PlacedForm, PlacedLine, PlacedSimples}
use Rattle.pyplaces.specs.Recording.{Records, afters}
use Rattle.pyplaces.specs.Stretches.{Stretch}
use Rattle.pyparse_line.specs.declared.found.ReadForm.{ReadForm}
use Rattle.pyparse_line.specs.declared.found.ReadSuite.{ReadSuite}
use Rattle.pyparse_statement.specs.declared.headers.found.ReadHeader.{ReadHeader}

-- what stands after a header's colon: statements, or the end of the line
pub data PlacedSuite (profile : Profile) : List tokens.Terminal → ℕ → Option (List Stmt) → List tokens.Terminal → ℕ → List Stretch
    → Type 0 where
  no_suite : {at : ℕ} → PlacedSuite profile [] at None [] at []
  some_suite : {i r : List tokens.Terminal} {at following : ℕ} {ss : List Stmt} {ps : List Stretch}
      → PlacedSimples profile i at ss r following ps → PlacedSuite profile i at (Some ss) r following ps

module _ {S : Type 0} (after : S → Stretch → S) where
  pub record SuitePlaced (profile : Profile) (ts : List Terminal) (at : ℕ) (old new : S) (r : ReadSuite) : Type 0 where
    pub places : List Stretch
    pub suite : PlacedSuite profile (seen ts at) at (suite_of r.statements) (seen ts r.next) r.next places
    pub records : Records after old places new

  -- after its colon
  pub record ColonPlaced (profile : Profile) (ts : List Terminal) (at : ℕ) (old new : S) (r : ReadSuite) : Type 0 where
    pub colon : Stands (Op Colon) ts at
    pub suite : SuitePlaced profile ts (at + 1) old new r

-- `count` is how many places a recorder has.
module _ {S : Type 0} (after : S → Stretch → S) (count : S → ℕ) where
  pub record CasePlaced (ts : List Terminal) (at : ℕ) (old new : S) (r : ReadHeader) : Type 0 where
    pub before : List Stretch
    pub header : PlacedCase (seen ts at) at (header_of r.header) (seen ts r.next) r.next (form_places before [] [])
    pub before_is : r.before ≡ count (afters after old before)
    pub records : Records after old before new

  -- the whole line, where nothing is left after it
  pub record LinePlaced (profile : Profile) (ts : List Terminal) (old new : S) (r : ReadForm) : Type 0 where
    pub places : FormPlaces
    pub line : seen ts r.next ≡ [] → PlacedLine profile (seen ts 0) (form_of r.form) places
    pub before_is : r.before ≡ count (afters after old places.before)
    pub after_is : r.following ≡ count (afters after old (places.before ++ places.following))
    pub records : Records after old (places.before ++ (places.following ++ places.suite)) new

  pub record FormPlaced (profile : Profile) (inside : Bool) (ts : List Terminal) (old new : S) (r : ReadForm) : Type 0 where
    pub places : FormPlaces
    pub form : seen ts r.next ≡ [] → PlacedForm profile inside (seen ts 0) (form_of r.form) places
    pub before_is : r.before ≡ count (afters after old places.before)
    pub after_is : r.following ≡ count (afters after old (places.before ++ places.following))
    pub records : Records after old (places.before ++ (places.following ++ places.suite)) new
