-- What holds of the forms of logical lines, of their blocks, and of the answer for a source.
use Rattle.std.specs.Prelude.{◌≡◌, ◌⊎◌, ◌↔◌, ℕ, ◌<◌, Bool, true, List, [], Contains}
use Rattle.pysource.specs.declared.places.Place.{Place}
use Rattle.pylex_listing.specs.Listing.{Source}
use Rattle.pytree_node.specs.declared.profiles.Extent.{Extent}
use Rattle.pytree_node.specs.declared.profiles.Extent.TheVariants.{Plain, Whole}
use Rattle.pytree_node.specs.declared.profiles.Profile.{Profile}
use Rattle.pytree_node.specs.declared.profiles.Version.{Version}
use Rattle.pytree_node.specs.declared.profiles.Version.TheVariants.{Py311, Py312}
use Rattle.pytree_node.specs.Profiles.{python}
use Rattle.pytree_node.specs.Trees.{Stmt, Module}
use Rattle.pytree_height.specs.Heights.{statement_height}
use Rattle.pytoken.specs.Tokens.{lines}
use Rattle.pytoken.specs.Tokens as Tokens
use Rattle.pytoken.specs.Terminals.{Terminal}
use Rattle.pygrammar.specs.Lengths.{weight}
use Rattle.pygrammar.specs.Lines.{Line, Form, untyped, are_proper}
use Rattle.pygrammar.specs.Forms.{FormAt}
use Rattle.pygrammar.specs.Blocks.{Block, Fault, FirstFault}
use Rattle.pygrammar.specs.Types.{is_module_untyped}
use Rattle.pygrammar.specs.Extents.{is_module_plain}
use Rattle.pygrammar.specs.Refusals.{Code, Reason, terminals, at, HasNone, Formed, FirstDeep, Accepted, Refused}

-- in a version and an extent a line has at most one form in a `match`, and at most one elsewhere
abbrev pub FormsAreUnique : Type 0
FormsAreUnique = (profile : Profile) (inside : Bool) (ts : List Terminal) (f g : Form) → FormAt profile inside ts f
    → FormAt profile inside ts g → f ≡ g

-- in either extent the forms of Python 3.11 are those of 3.12 without types
abbrev pub TypesAreNew : Type 0
TypesAreNew = (extent : Extent) (inside : Bool) (ts : List Terminal) (f : Form) →
    FormAt (python Py311 extent) inside ts f ↔ (FormAt (python Py312 extent) inside ts f × (untyped f ≡ true))

-- the laws of the forms of a line
pub record FormsAreLawful : Type 0 where
  pub unique : FormsAreUnique
  pub new : TypesAreNew

-- lines have at most one tree
abbrev pub TreesAreUnique : Type 0
TreesAreUnique = (xs : List Line) (a b : List Stmt) → Block 0 xs a → Block 0 xs b → a ≡ b

-- they have a tree, or a first faulty line
abbrev pub TreesAreDecided : Type 0
TreesAreDecided = (xs : List Line) → are_proper xs ≡ true
    → ((ss : List Stmt) × Block 0 xs ss) ⊎ ((rest : List Line) × (f : Fault) × FirstFault [] xs rest f)

-- and never both
abbrev pub FaultyLinesAreNoTree : Type 0
FaultyLinesAreNoTree = (xs rest : List Line) (ss : List Stmt) (f : Fault) → Block 0 xs ss → FirstFault [] xs rest f → ⊥

-- the first faulty line is one, and so is its fault
abbrev pub FirstFaultsAreUnique : Type 0
FirstFaultsAreUnique = (xs a b : List Line) (e f : Fault) → FirstFault [] xs a e → FirstFault [] xs b f → (a ≡ b) × (e ≡ f)

-- the laws of blocks
pub record BlocksAreLawful : Type 0 where
  pub unique : TreesAreUnique
  pub decided : TreesAreDecided
  pub faultless : FaultyLinesAreNoTree
  pub first : FirstFaultsAreUnique

-- in a version a source has at most one tree
abbrev pub ModulesAreUnique : Type 0
ModulesAreUnique = (profile : Profile) (s : Source) (a b : Module) → Accepted profile s a → Accepted profile s b → a ≡ b

-- and none that is refused has one
abbrev pub RefusedHaveNoModule : Type 0
RefusedHaveNoModule = (profile : Profile) (s : Source) (m : Module) (r : Reason) → Accepted profile s m → Refused profile s r → ⊥

-- in either extent a source of Python 3.11 is one of 3.12, with the same tree
abbrev pub ModulesStay : Type 0
ModulesStay = (extent : Extent) (s : Source) (m : Module) → Accepted (python Py311 extent) s m → Accepted (python Py312 extent) s m

-- and the sources of 3.11 are those of 3.12 whose trees have no types
abbrev pub ModulesReturn : Type 0
ModulesReturn = (extent : Extent) (s : Source) (m : Module) →
    Accepted (python Py311 extent) s m ↔ (Accepted (python Py312 extent) s m × (is_module_untyped m ≡ true))

-- a source is accepted in the plain language exactly where it is in the whole one with the same tree, and that has nothing of the whole
-- language alone
abbrev pub ExtentsDifferInTrees : Type 0
ExtentsDifferInTrees = (version : Version) (s : Source) (m : Module)
    → Accepted (python version Plain) s m ↔ (Accepted (python version Whole) s m × (is_module_plain m ≡ true))

-- each source is accepted or refused
abbrev pub SourcesAreAnswered : Type 0
SourcesAreAnswered = (profile : Profile) (s : Source) → ((m : Module) × Accepted profile s m) ⊎ ((r : Reason) × Refused profile s r)

-- the one free choice: a long line without any form may be refused by either of two reasons, at one place
pub data IsFreeChoice (profile : Profile) (s : Source) : Reason → Reason → Type 0 where
  free : {p : Place} {c d : Code} {inside : Bool} (x : Tokens.Line) → Contains (lines s) x → HasNone profile inside x
      → 500 < weight (terminals x) → IsFreeChoice profile s (at p c) (at p d)

-- what is refused has one reason otherwise
abbrev pub ReasonsAreUnique : Type 0
ReasonsAreUnique = (profile : Profile) (s : Source) (r q : Reason) → Refused profile s r → Refused profile s q
    → (r ≡ q) ⊎ IsFreeChoice profile s r q

-- where the lines of a source have a tree, a line begins a statement too deep exactly where the tree is too high
abbrev pub DepthsAreHeights : Type 0
DepthsAreHeights = (profile : Profile) (xs : List Tokens.Line) (forms : List Line) (m : Module) → Formed profile [] xs forms
    → Block 0 forms m.body →
    ((n : ℕ) × FirstDeep [] forms n) ↔ (500 < statement_height m)

-- the laws of the answer for a source
pub record AnswersAreLawful : Type 0 where
  pub unique : ModulesAreUnique
  pub apart : RefusedHaveNoModule
  pub stays : ModulesStay
  pub new : ModulesReturn
  pub extents : ExtentsDifferInTrees
  pub total : SourcesAreAnswered
  pub one : ReasonsAreUnique
  pub depths : DepthsAreHeights
