-- The lexeme that a line begins with, from where a lister has looked to.
use Rattle.std.specs.Prelude.{◌≡◌, ℕ, ◌+◌, true, false, List, length}
use Rattle.pysource.specs.declared.places.Place.{Place}
use Rattle.pylex_lexeme.specs.declared.lexeme.Class.{Class}
use Rattle.pylex_lexeme.specs.Cuts.{Cuts}
use Rattle.pylex_lexeme.specs.Lexemes.{is_opener_class}
use Rattle.pylex.specs.declared.line_state.LineState.{LineState}
use Rattle.pylex.specs.declared.machine.Machine.{Machine}
use Rattle.pylex.specs.declared.spots.Spot.{Spot}
use Rattle.pylex_listing.specs.Lines.{count_if}
use Rattle.pylex.specs.LineStarts.{begins_line}
use Rattle.pylex.specs.Spots.{rows_in}

-- from a place in a text, after so many entries, a token that can begin a line: its class, its bytes, its place, and the spot after it
pub record StartLexeme (p : LineState) (count : ℕ) (text : List ℕ) (k : Class) (front : List ℕ) (at : Place) (s : Spot) : Type 0 where
  pub back : List ℕ
  pub cuts : Cuts text k front back
  pub token : begins_line k ≡ true
  pub place : at ≡ p.now.place
  pub given : s.given ≡ count + 1
  pub offset : s.offset ≡ p.now.offset + length front
  pub row : s.row ≡ p.now.place.row + rows_in k front
  pub depth : s.depth ≡ p.depth + count_if (is_opener_class k)
  pub begun : s.begun ≡ true

-- so it stands before a machine that has given no entry of the end, and no DEDENT since the last entry with text
pub record LineStart (m : Machine) (text : List ℕ) (k : Class) (front : List ℕ) (at : Place) (s : Spot) : Type 0 where
  pub tail : m.tail ≡ 0
  pub nested : m.nested ≡ length m.levels.items
  pub margin : m.now.margin ≡ false
  pub lexeme : StartLexeme m.now m.given text k front at s
