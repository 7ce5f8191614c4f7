-- Spots: directly after an entry with text, where a lister's cursor says all of how it stands; and the lexemes from one to the next.
use Rattle.std.specs.Prelude.{◌≡◌, ℕ, ◌+◌, ◌-◌, ◌^◌, ◌<◌, Bool, true, false, not, ◌&&◌, ◌==◌, List, length, count_by}
use Rattle.pysource.specs.Parts.{Parts}
use Rattle.pysource.specs.Places.{is_lf}
use Rattle.pylex_lexeme.specs.declared.lexeme.Class.{Class}
use Rattle.pylex_lexeme.specs.declared.lexeme.Class.TheVariants.{String, Blanks, LineEnd, Join}
use Rattle.pylex_lexeme.specs.Lexemes.{is_line_end_class, is_opener_class, is_closer_class}
use Rattle.pylex_lexeme.specs.Cuts.{Cuts}
use Rattle.pylex.specs.declared.spots.Spot.{Spot}
use Rattle.pylex.specs.Cursors.{CursorParts}
use Rattle.pylex_listing.specs.Lines.{count_if}
use Rattle.pylex.specs.Listers.{Listed}

-- the cursor at a spot, where these levels are open
abbrev pub spot_cursor : Spot → List ℕ → CursorParts
spot_cursor s levels = record {
  given = s.given;
  offset = s.offset;
  row = s.row;
  depth = s.depth;
  begun = s.begun;
  skip = 0;
  levels = levels;
}

-- a lister that stands at a spot of a source
abbrev pub at_spot : Parts → Spot → List ℕ → Listed
at_spot p s levels = record { source = p; shown = spot_cursor s levels }

-- a lexeme that gives no entry
abbrev pub is_silent : Class → Bool
is_silent k = elim k [ Blanks ↦ true | Join ↦ true | _ ↦ false ]

-- the line feeds in a lexeme, which is given as its bytes: only a string may have any number of them
abbrev pub rows_in : Class → List ℕ → ℕ
rows_in k bs = elim k [ String ↦ count_by is_lf bs | LineEnd ↦ 1 | Join ↦ 1 | _ ↦ 0 ]

-- From bytes past lexemes that give no entry, one after another, to those that are left: so many of them are joins.
pub data Silent (bytes : List ℕ) : List ℕ → ℕ → Type 0 where
  here : Silent bytes bytes 0
  blanks : (rest front back : List ℕ) (n : ℕ) → Silent bytes rest n → Cuts rest Blanks front back → Silent bytes back n
  join : (rest front back : List ℕ) (n : ℕ) → Silent bytes rest n → Cuts rest Join front back → Silent bytes back (n + 1)

-- the next lexeme that gives an entry stands in bytes that begin on a row: its class, its text, what is left after it, and the row there
pub record LexemeAhead (bytes : List ℕ) (at : ℕ) (k : Class) (front back : List ℕ) (to : ℕ) : Type 0 where
  pub rest : List ℕ
  pub joins : ℕ
  pub silent : Silent bytes rest joins
  pub cuts : Cuts rest k front back
  pub gives : is_silent k ≡ false
  pub row : to ≡ at + joins + rows_in k front

-- from a spot, with these bytes left, to another by the next lexeme that gives an entry
pub record Steps (s : Spot) (left : List ℕ) (k : Class) (front back : List ℕ) (t : Spot) : Type 0 where
  pub ahead : LexemeAhead left s.row k front back t.row
  pub matched : (is_closer_class k && (s.depth == 0)) ≡ false
  pub given : t.given ≡ s.given + 1
  pub offset : t.offset + length back ≡ s.offset + length left
  pub depth : t.depth ≡ s.depth + count_if (is_opener_class k) - count_if (is_closer_class k)
  pub begun : t.begun ≡ not (is_line_end_class k && (s.depth == 0))

-- the counts of a spot stay small over n more bytes
pub record SpotHasRoom (s : Spot) (n : ℕ) : Type 0 where
  pub given : s.given < 2 ^ 62
  pub offset : s.offset + n < 2 ^ 62
  pub row : s.row + n < 2 ^ 62
  pub depth : s.depth + n < 2 ^ 62
