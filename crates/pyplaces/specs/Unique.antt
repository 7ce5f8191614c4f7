-- Two derivations have the same places: of the same terminals, of the same lines, of one source.
use Rattle.std.specs.Prelude.{◌≡◌, ℕ, List, Bool}
use Rattle.pylex_listing.specs.Listing.{Source}
use Rattle.pytree_node.specs.declared.profiles.Profile.{Profile}
use Rattle.pytree_node.specs.Trees.{Expr, Module, Pattern, Stmt}
use Rattle.pytoken.specs.Terminals.{Terminal}
use Rattle.pygrammar.specs.declared.levels.Level.{Level}
use Rattle.pygrammar.specs.declared.pattern_levels.PatternLevel.{PatternLevel}
use Rattle.pygrammar.specs.Blocks.{Block}
use Rattle.pygrammar.specs.Forms.{FormAt}
use Rattle.pygrammar.specs.Grammar.{Derives}
use Rattle.pygrammar.specs.Lines.{Form, Line}
use Rattle.pygrammar.specs.PatternGrammar.{DerivesPattern}
use Rattle.pygrammar.specs.Refusals.{Accepted}
use Rattle.pyplaces.specs.BlockPlaces.{LinePlaces, block_places}
use Rattle.pyplaces.specs.ExpressionPlaces.{places}
use Rattle.pyplaces.specs.FormPlaces.{places_at}
use Rattle.pyplaces.specs.ModulePlaces.{source_places}
use Rattle.pyplaces.specs.PatternPlaces.{pattern_places}

-- as expressions of a level
abbrev pub OfExpressions : Type 0
OfExpressions = (l : Level) (ts : List Terminal) (a b : Expr) (at : ℕ) (p : Derives l ts a) (q : Derives l ts b) → places at p ≡ places at q

-- as patterns of a level
abbrev pub OfPatterns : Type 0
OfPatterns = (l : PatternLevel) (ts : List Terminal) (a b : Pattern) (at : ℕ) (p : DerivesPattern l ts a) (q : DerivesPattern l ts b)
    → pattern_places at p ≡ pattern_places at q

-- as lines in a version and an extent, in a `match` or elsewhere
abbrev pub OfLines : Type 0
OfLines = (profile : Profile) (inside : Bool) (ts : List Terminal) (f g : Form) (p : FormAt profile inside ts f)
    (q : FormAt profile inside ts g) → places_at p ≡ places_at q

-- as blocks of a level, whatever the places of their lines
abbrev pub OfBlocks : Type 0
OfBlocks = (l : ℕ) (xs : List Line) (ss ts : List Stmt) (zs : List LinePlaces) (b : Block l xs ss) (c : Block l xs ts)
    → block_places zs b ≡ block_places zs c

-- as modules in a version and an extent
abbrev pub OfSources : Type 0
OfSources = (profile : Profile) (s : Source) (m n : Module) (a : Accepted profile s m) (b : Accepted profile s n)
    → source_places a ≡ source_places b

pub record PlacesAreUnique : Type 0 where
  pub expressions : OfExpressions
  pub patterns : OfPatterns
  pub lines : OfLines
  pub blocks : OfBlocks
  pub sources : OfSources
