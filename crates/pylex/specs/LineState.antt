-- How far a lister looks: the state of its line, its open levels, and what it meets next.
use Rattle.std.specs.Prelude.{◌≡◌, ℕ, ◌+◌, ◌*◌, ◌^◌, ◌<◌, ◌≤◌, suc, Bool, true, false, not, ◌&&◌, ◌==◌, nat_lt, List, [], ◌∷◌, ◌++◌, length}
use Rattle.std.specs.Prelude.{drop, count_by, Some, None}
use Rattle.std.specs.List.{list_all, list_any}
use Rattle.std.specs.Str.{chars, IsUtf8}
use Rattle.pylex.specs.declared.entries.Emitted.{Emitted}
use Rattle.pylex.specs.declared.entries.Emitted.TheVariants as gives
use Rattle.pylex_listing.specs.declared.entries.Entry.{Entry}
use Rattle.pylex_listing.specs.declared.entries.ListingFault.{ListingFault}
use Rattle.pylex_listing.specs.declared.entries.ListingError.TheVariants as errors
use Rattle.pylex_listing.specs.declared.entries.Step.{Step}
use Rattle.pylex_listing.specs.declared.entries.Step.TheVariants as steps
use Rattle.pylex_listing.specs.declared.kind.Kind.TheVariants as kinds
use Rattle.pylex.specs.declared.line_state.LineState.{LineState}
use Rattle.pylex.specs.declared.peeked.Indentation.{Indentation}
use Rattle.pylex.specs.declared.peeked.Indentation.TheVariants as indentations
use Rattle.pylex.specs.declared.peeked.Peeked.{Peeked}
use Rattle.pylex.specs.declared.peeked.Peeked.TheVariants as peeked
use Rattle.pylex_lexeme.specs.Lexemes.{Lexeme, lexeme_at, lexeme_len}
use Rattle.pylex_lexeme.specs.Cuts.{begins_significant}
use Rattle.pylex_listing.specs.Machine.{State, after, entry_by, pushed, mark_at, dedents_at, last_place}

-- the state of a lister, with the levels that are open
abbrev pub with_levels : LineState → List ℕ → State
with_levels p levels = record {
  now = p.now;
  line = p.line;
  depth = p.depth;
  levels = levels;
  margin = p.margin;
  width = p.width;
  logical = p.logical;
  joined = p.joined;
  lead = p.lead;
}

-- the state after the layout before the first significant token of a logical line
abbrev pub measured : State → State
measured s = record {
  now = s.now;
  line = s.line;
  depth = s.depth;
  levels = pushed s.width s.levels;
  margin = false;
  width = 0;
  logical = true;
  joined = s.joined;
  lead = s.lead;
}

-- the state directly after an entry: a line is yet to be measured only at its start
abbrev pub begun_anew : State → State
begun_anew s = record {
  now = s.now;
  line = s.now;
  depth = s.depth;
  levels = s.levels;
  margin = not s.logical && (s.now.place.column == 0);
  width = 0;
  logical = s.logical;
  joined = false;
  lead = s.lead;
}

-- the counts of a lister that has n more bytes to go stay small
pub record HasRoom (p : LineState) (n : ℕ) : Type 0 where
  pub row : p.now.place.row + n < 2 ^ 62
  pub column : p.now.place.column + n < 2 ^ 62
  pub offset : p.now.offset + n < 2 ^ 62
  pub depth : p.depth + n < 2 ^ 62
  pub width : p.width + 8 * n < 2 ^ 62

-- a lister may advance over these bytes
pub record Stands (p : LineState) (bytes : List ℕ) : Type 0 where
  pub utf8 : IsUtf8 bytes
  pub room : HasRoom p (length bytes)

-- Where a line is yet to be measured, only blanks stand between its begin and here.
abbrev pub IsMeasuring : LineState → Type 0
IsMeasuring p = p.margin ≡ true → p.now.offset ≤ p.line.offset + p.now.place.column

-- numbers, each larger than the one before, the first larger than n
abbrev pub IsAscending : ℕ → List ℕ → Type 0
IsAscending n [] = Unit {0}
IsAscending n (m ∷ ms) = (n < m) × IsAscending m ms

-- what a lexeme gives: nothing, an entry or a fault
abbrev pub given : Emitted → List Step
given gives.Nothing = []
given (gives.Entry e) = steps.Entry e ∷ []
given (gives.Fault f) = steps.Fault f ∷ []

-- if an entry is given, that has no text
abbrev pub GivesNoText : Emitted → Type 0
GivesNoText gives.Nothing = Unit {0}
GivesNoText (gives.Entry e) = e.«from» ≡ e.to
GivesNoText (gives.Fault f) = Unit {0}

-- a fault is given
abbrev pub IsGivenFault : Emitted → Type 0
IsGivenFault gives.Nothing = ⊥
IsGivenFault (gives.Entry e) = ⊥
IsGivenFault (gives.Fault f) = Unit {0}

-- if an entry is given, that is of empty text at an offset
abbrev pub GivesAt : ℕ → Emitted → Type 0
GivesAt o gives.Nothing = Unit {0}
GivesAt o (gives.Entry e) = (e.«from» ≡ o) × (e.to ≡ o)
GivesAt o (gives.Fault f) = Unit {0}

-- the DEDENTs of the end and ENDMARKER
abbrev pub closing : State → List Step
closing s = dedents_at 0 s.levels s.now.offset (last_place s) ++ mark_at kinds.EndMarker s.now.offset (last_place s)
    (last_place s) ∷ steps.End ∷ []

-- the width is that of an open level, of none but larger than all, or of none
abbrev pub is_above : ℕ → List ℕ → Bool
is_above w levels = list_all (λ v. nat_lt v w) levels

abbrev pub is_level : ℕ → List ℕ → Bool
is_level w levels = list_any (λ v. v == w) levels

-- From a state before some characters, past lexemes that give nothing and past n DEDENTs, one after another, to a state before others.
pub data Walks (t : State) (ds : List ℕ) : ℕ → State → List ℕ → Type 0 where
  stays : Walks t ds 0 t ds
  silent : (n : ℕ) (s : State) (cs : List ℕ) (x : Lexeme) → (s.margin && begins_significant cs) ≡ false → lexeme_at cs ≡ Some x
      → entry_by s x ≡ [] → Walks t ds n (after s x) (drop (lexeme_len cs) cs) → Walks t ds n s cs
  level : (n : ℕ) (s : State) (cs : List ℕ) → s.margin ≡ true → begins_significant cs ≡ true → is_level s.width s.levels ≡ true
      → count_by (nat_lt s.width) s.levels ≡ 0 → Walks t ds n (measured s) cs → Walks t ds n s cs
  dedent : (n : ℕ) (s : State) (cs ls : List ℕ) (v : ℕ) → s.margin ≡ true → begins_significant cs ≡ true → s.levels ≡ ls ++ v ∷ []
      → s.width < v → is_level s.width ls ≡ true → Walks t ds n (record s { levels = ls }) cs → Walks t ds (suc n) s cs

-- What is met next: a lister that stands at p, before these characters, comes to q, before those, past what gives nothing, and there is
-- what it meets.
pub record Comes (levels : List ℕ) (p : LineState) (cs : List ℕ) (q : LineState) (ds : List ℕ) : Type 0 where
  pub walks : Walks (with_levels q (0 ∷ levels)) ds 0 (with_levels p (0 ∷ levels)) cs

-- the entry of a lexeme, where no layout is due, and q is after it
pub record EntryAhead (levels : List ℕ) (p : LineState) (cs : List ℕ) (e : Entry) (q : LineState) (ds : List ℕ) : Type 0 where
  pub there : LineState
  pub before : List ℕ
  pub lexeme : Lexeme
  pub comes : Comes levels p cs there before
  pub settled : (there.margin && begins_significant before) ≡ false
  pub stands : lexeme_at before ≡ Some lexeme
  pub own : entry_by (with_levels there (0 ∷ levels)) lexeme ≡ steps.Entry e ∷ []
  pub following : ds ≡ drop (lexeme_len before) before
  pub goes : with_levels q (0 ∷ levels) ≡ after (with_levels there (0 ∷ levels)) lexeme

-- what gives a fault where a lister stands: a line whose width is that of no level, or a lexeme
pub data GivesFault (levels : List ℕ) (q : LineState) (ds : List ℕ) (f : ListingFault) : Type 0 where
  mismatch : q.margin ≡ true → begins_significant ds ≡ true → is_above q.width (0 ∷ levels) ≡ false → is_level q.width (0 ∷ levels) ≡ false
      → f ≡ record { code = errors.UnindentMismatch; place = q.now.place } → GivesFault levels q ds f
  faulty : (x : Lexeme) → (q.margin && begins_significant ds) ≡ false → lexeme_at ds ≡ Some x
      → entry_by (with_levels q (0 ∷ levels)) x ≡ steps.Fault f ∷ [] → GivesFault levels q ds f

-- a fault, where the lister comes to what gives it
pub record FaultAhead (levels : List ℕ) (p : LineState) (cs : List ℕ) (f : ListingFault) : Type 0 where
  pub there : LineState
  pub before : List ℕ
  pub comes : Comes levels p cs there before
  pub cause : GivesFault levels there before f

-- a first significant token of a line stands here, whose width is above all levels
pub record IndentAhead (levels : List ℕ) (q : LineState) (ds : List ℕ) : Type 0 where
  pub margin : q.margin ≡ true
  pub significant : begins_significant ds ≡ true
  pub above : is_above q.width (0 ∷ levels) ≡ true

-- or is that of a level below the last
pub record DedentAhead (levels : List ℕ) (q : LineState) (ds : List ℕ) : Type 0 where
  pub margin : q.margin ≡ true
  pub significant : begins_significant ds ≡ true
  pub level : is_level q.width (0 ∷ levels) ≡ true
  pub some : 0 < length levels
  pub last : (front : List ℕ) (v : ℕ) → levels ≡ front ++ v ∷ [] → q.width < v

-- no lexeme stands here, and no layout is due
pub record StopAhead (q : LineState) (ds : List ℕ) : Type 0 where
  pub none : lexeme_at ds ≡ None
  pub settled : (q.margin && begins_significant ds) ≡ false

abbrev pub Peek : List ℕ → LineState → List ℕ → Peeked → LineState → List ℕ → Type 0
Peek levels p cs (peeked.Entry e) q ds = EntryAhead levels p cs e q ds
Peek levels p cs (peeked.Fault f) q ds = FaultAhead levels p cs f
Peek levels p cs peeked.Indent q ds = Comes levels p cs q ds × IndentAhead levels q ds
Peek levels p cs peeked.Dedent q ds = Comes levels p cs q ds × DedentAhead levels q ds
Peek levels p cs peeked.Stop q ds = Comes levels p cs q ds × StopAhead q ds

-- the last of the open levels, by those above 0
pub record IsTop (levels : List ℕ) (top : ℕ) : Type 0 where
  pub last : (front : List ℕ) (v : ℕ) → levels ≡ front ++ v ∷ [] → v ≡ top
  pub none : length levels ≡ 0 → top ≡ 0

-- the layout of a line by its width and the open levels above 0
abbrev pub IsIndentation : ℕ → List ℕ → Indentation → Type 0
IsIndentation w levels indentations.Level = (is_above w (0 ∷ levels) ≡ false) × (is_level w (0 ∷ levels) ≡ true) ×
    (count_by (nat_lt w) (0 ∷ levels) ≡ 0) × (pushed w (0 ∷ levels) ≡ 0 ∷ levels)
IsIndentation w levels indentations.Indent = is_above w (0 ∷ levels) ≡ true
IsIndentation w levels indentations.Dedent = (is_level w (0 ∷ levels) ≡ true) × (0 < length levels) × ((front : List ℕ) (v : ℕ)
    → levels ≡ front ++ v ∷ [] → w < v)
IsIndentation w levels indentations.Mismatch = (is_above w (0 ∷ levels) ≡ false) × (is_level w (0 ∷ levels) ≡ false)

-- a lister that stands at p, before these characters, may as well stand at q, where no layout is due
pub record Settles (levels : List ℕ) (p : LineState) (cs : List ℕ) (q : LineState) : Type 0 where
  pub comes : Comes levels p cs q cs
  pub settled : (q.margin && begins_significant cs) ≡ false

-- a text stands at the end of another
abbrev pub Following : List ℕ → List ℕ → Type 0
Following whole rest = (front : List ℕ) × (whole ≡ front ++ rest)

-- from a place in a text an entry comes next, whatever levels are open: with how far a lister is after it, and what is left there
pub record NextEntry (p : LineState) (text : List ℕ) (e : Entry) (q : LineState) (rest : List ℕ) : Type 0 where
  pub entry : (levels : List ℕ) → EntryAhead levels p (chars text) e q (chars rest)
  pub stands : Stands q rest
  pub room : (n : ℕ) → HasRoom p (length text + n) → HasRoom q (length rest + n)
  pub following : Following text rest
