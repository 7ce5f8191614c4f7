-- What holds of the reader of logical lines, each at its place: in a `match` or elsewhere.
use Rattle.std.specs.Prelude.{◌≡◌, ◌⊎◌, ◌↔◌, ℕ, ◌<◌, ◌≤◌, Bool, List, []}
use Rattle.pytree_node.specs.declared.profiles.Profile.{Profile}
use Rattle.pytoken.specs.Terminals.{Terminal}
use Rattle.pygrammar.specs.Lengths.{weight}
use Rattle.pygrammar.specs.Reader.{Found, NoForm, TooDeep}
use Rattle.pygrammar.specs.Lines.{Form}
use Rattle.pygrammar.specs.Forms.{FormAt}
use Rattle.pygrammar.specs.LineReader.{read_line, read_line_to}
use Rattle.pygrammar.specs.FormHeights.{form_height}
use Rattle.pygrammar.specs.LimitedLines.{limit_line}
use Rattle.pygrammar.specs.Meets.{LineMeets}

-- the reader of a line gives its form, and none where there is none
abbrev pub LineReaderIsExact : Type 0
LineReaderIsExact = (profile : Profile) (inside : Bool) (ts : List Terminal) (f : Form)
    → FormAt profile inside ts f ↔ (read_line profile inside ts ≡ Found f [])

-- it gives the whole line's form, or says that there is none
abbrev pub FormsAreDecided : Type 0
FormsAreDecided = (profile : Profile) (inside : Bool) (ts : List Terminal) →
    ((f : Form) × (read_line profile inside ts ≡ Found f []) × FormAt profile inside ts f) ⊎
    ((read_line profile inside ts ≡ NoForm) × ((f : Form) → FormAt profile inside ts f → ⊥))

-- to a depth it answers the same or goes too deep, and it goes too deep in no line that counts less
abbrev pub DepthIsKept : Type 0
DepthIsKept = (profile : Profile) (inside : Bool) (d : ℕ) (ts : List Terminal) →
    ((read_line_to profile inside d ts ≡ TooDeep) ⊎ (read_line_to profile inside d ts ≡ read_line profile inside ts)) × (weight ts < d
    → read_line_to profile inside d ts ≡ TooDeep → ⊥)

-- within a height it gives a line's form exactly where that is no higher
abbrev pub LineLimitIsExact : Type 0
LineLimitIsExact = (profile : Profile) (inside : Bool) (d : ℕ) (ts : List Terminal) (f : Form)
    → (FormAt profile inside ts f × (form_height f ≤ d)) ↔ (limit_line profile inside d ts ≡ Found f [])

-- and each of its answers means what `LineMeets` says
abbrev pub LineLimitMeets : Type 0
LineLimitMeets = (profile : Profile) (inside : Bool) (d : ℕ) (ts : List Terminal)
    → LineMeets profile inside d ts (limit_line profile inside d ts)

-- the laws of the reader of lines
pub record LinesAreLawful : Type 0 where
  pub exact : LineReaderIsExact
  pub decided : FormsAreDecided
  pub deep : DepthIsKept
  pub limited : LineLimitIsExact
  pub meets : LineLimitMeets
