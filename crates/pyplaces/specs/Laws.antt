-- What holds of the places of an accepted source.
use Rattle.std.specs.Prelude.{◌≡◌, ℕ, ◌+◌, ◌<◌, ◌≤◌, Bool, List, [], ◌∷◌, ◌++◌, length, take, drop, Some, None}
use Rattle.pylex_listing.specs.Listing.{Source}
use Rattle.pytree_node.specs.declared.profiles.Profile.{Profile}
use Rattle.pytree_node.specs.Trees.{Expr, Module, Pattern, Stmt}
use Rattle.pytree_dump_text.specs.Shows.{shown_module, shown_stmt}
use Rattle.pytree_marked.specs.MarkedNodes.{marked}
use Rattle.pytoken.specs.Terminals.{Terminal}
use Rattle.pytoken.specs.Tokens as tokens
use Rattle.pygrammar.specs.Forms.{FormAt, Simple}
use Rattle.pygrammar.specs.Grammar.{Derives}
use Rattle.pygrammar.specs.PatternGrammar.{DerivesPattern}
use Rattle.pygrammar.specs.declared.pattern_levels.PatternLevel.{PatternLevel}
use Rattle.pygrammar.specs.Blocks.{Block}
use Rattle.pygrammar.specs.Lines.{Form, simple_form, decorator_form, header_form, Line}
use Rattle.pygrammar.specs.Refusals.{Accepted, Formed}
use Rattle.pygrammar.specs.declared.levels.Level.{Level}
use Rattle.pyplaces.specs.Stretches.{Span, Stretch}
use Rattle.pyplaces.specs.BlockPlaces.{LinePlaces, block_places}
use Rattle.pyplaces.specs.ExpressionPlaces.{places}
use Rattle.pyplaces.specs.FormPlaces.{places_at, simple_places}
use Rattle.pyplaces.specs.PatternPlaces.{pattern_places}
use Rattle.pyplaces.specs.ModulePlaces.{formed_places, module_places}

-- as many spans as marked nodes
abbrev pub Count : Type 0
Count = (spans : tokens.Line → List Span) (profile : Profile) (s : Source) (m : Module) (a : Accepted profile s m)
    → length (module_places spans a) ≡ marked (shown_module profile m)

-- ---- Tokens.

-- it begins at one of the terminals from lo on and before hi, and ends after one of them
pub record IsWithin (lo hi : ℕ) (s : Stretch) : Type 0 where
  pub begins : lo ≤ s.first
  pub some : s.first < s.following
  pub ends : s.following ≤ hi

abbrev pub AreWithin : ℕ → ℕ → List Stretch → Type 0
AreWithin lo hi [] = Unit {0}
AreWithin lo hi (s ∷ ss) = IsWithin lo hi s × AreWithin lo hi ss

-- the places of a line begin and end at terminals of it
abbrev pub Tokens : Type 0
Tokens = (profile : Profile) (inside : Bool) (ts : List Terminal) (f : Form) (d : FormAt profile inside ts f)
    → AreWithin 0 (length ts) (places_at d).before × AreWithin 0 (length ts) (places_at d).following
    × AreWithin 0 (length ts) (places_at d).suite

-- ---- Nested.

-- the last of some places holds all of them, and is itself within some terminals
pub record IsRooted (lo hi : ℕ) (ps : List Stretch) : Type 0 where
  pub fields : List Stretch
  pub own : Stretch
  pub are : ps ≡ fields ++ (own ∷ [])
  pub within : IsWithin lo hi own
  pub holds : AreWithin own.first own.following fields

-- the place of an expression, of a pattern, of a simple statement holds those of its fields
pub record Nested : Type 0 where
  pub expressions : (l : Level) (ts : List Terminal) (e : Expr) (at : ℕ) (d : Derives l ts e) → IsRooted at (at + length ts) (places at d)
  pub patterns : (l : PatternLevel) (ts : List Terminal) (p : Pattern) (at : ℕ) (d : DerivesPattern l ts p)
      → IsRooted at (at + length ts) (pattern_places at d)
  pub statements : (profile : Profile) (ts : List Terminal) (s : Stmt) (at : ℕ) (d : Simple profile ts s)
      → IsRooted at (at + length ts) (simple_places at d)

-- ---- Nested or apart.

pub data Contains (s : Stretch) : List Stretch → Type 0 where
  first : {ss : List Stretch} → Contains s (s ∷ ss)
  later : {t : Stretch} {ss : List Stretch} → Contains s ss → Contains s (t ∷ ss)

-- one place holds the other, or they have no terminal in common
pub data AreClear (s t : Stretch) : Type 0 where
  holds : s.first ≤ t.first → t.following ≤ s.following → AreClear s t
  is_held : t.first ≤ s.first → s.following ≤ t.following → AreClear s t
  before : s.following ≤ t.first → AreClear s t
  following : t.following ≤ s.first → AreClear s t

abbrev pub AreLaminar : List Stretch → Type 0
AreLaminar ss = (s t : Stretch) → Contains s ss → Contains t ss → AreClear s t

-- of two places of a line one holds the other, or they are apart
abbrev pub Apart : Type 0
Apart = (profile : Profile) (inside : Bool) (ts : List Terminal) (f : Form) (d : FormAt profile inside ts f)
    → AreLaminar (((places_at d).before ++ (places_at d).following) ++ (places_at d).suite)

-- ---- In order.

abbrev pub last_of : List Span → List Span
last_of [] = []
last_of (s ∷ []) = s ∷ []
last_of (s ∷ (t ∷ ss)) = last_of (t ∷ ss)

-- the spans of some statements: of each the last of its own
abbrev pub statement_spans : Profile → List Stmt → List Span → List Span
statement_spans profile [] ps = []
statement_spans profile (s ∷ ss) ps =
    let n = marked (shown_stmt profile s) in last_of (take n ps) ++ statement_spans profile ss (drop n ps)

-- between lo and hi each ends before the next begins
abbrev pub AreInOrder : ℕ → List Span → ℕ → Type 0
AreInOrder lo [] hi = lo ≤ hi
AreInOrder lo (s ∷ ss) hi = (lo ≤ s.start) × (s.start ≤ s.stop) × AreInOrder s.stop ss hi

-- the statements that stand in a line
abbrev pub statements_in : Form → List Stmt
statements_in (simple_form ss) = ss
statements_in (decorator_form e) = []
statements_in (header_form h None) = []
statements_in (header_form h (Some ss)) = ss

-- between lo and hi each line ends before the next begins, and so do the statements in each
pub data LinesInOrder (profile : Profile) : ℕ → List Line → List LinePlaces → ℕ → Type 0 where
  no_line : {lo hi : ℕ} → lo ≤ hi → LinesInOrder profile lo [] [] hi
  a_line : {lo hi : ℕ} {x : Line} {xs : List Line} {z : LinePlaces} {zs : List LinePlaces} → lo ≤ z.whole.start
      → z.whole.start ≤ z.whole.stop → AreInOrder z.whole.start (statement_spans profile (statements_in x.form) z.suite) z.whole.stop
      → LinesInOrder profile z.whole.stop xs zs hi → LinesInOrder profile lo (x ∷ xs) (z ∷ zs) hi

-- of lines in order each statement of a block ends before the next begins
abbrev pub InOrder : Type 0
InOrder = (spans : tokens.Line → List Span) (profile : Profile) (earlier forms : List Line) (xs : List tokens.Line)
    (f : Formed profile earlier xs forms) (l lo hi : ℕ) (ss : List Stmt) (b : Block l forms ss)
    → LinesInOrder profile lo forms (formed_places spans f) hi
    → AreInOrder lo (statement_spans profile ss (block_places (formed_places spans f) b)) hi

-- ---- All of them.

pub record PlacesAreLawful : Type 0 where
  pub count : Count
  pub tokens : Tokens
  pub nested : Nested
  pub apart : Apart
  pub ordered : InOrder
