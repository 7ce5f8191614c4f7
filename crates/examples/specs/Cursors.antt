-- Why a listing can't go on after a text.
use Rattle.std.specs.Prelude.{◌≡◌, ℕ, List}
use Rattle.pylex.specs.declared.cursor.CursorFault.{CursorFault}
use Rattle.pylex.specs.declared.cursor.CursorFault.TheVariants.{AnotherSource, Text, Memory}
use Rattle.pylex.specs.Cursors.{CursorParts, cursor_text}
use Rattle.pylex.specs.CursorTexts.{IsWellFormed}
use Rattle.pylex_listing.specs.Listing.{Source}
use Rattle.pylex.specs.Standing.{IsCursorOf}

-- a text is that of a cursor, and of none that a source has
pub record IsOfAnother (s : Source) (text : List ℕ) : Type 0 where
  pub cursor : CursorParts
  pub well_formed : IsWellFormed cursor
  pub text_is : cursor_text cursor ≡ text
  pub none : (c : CursorParts) → IsWellFormed c → cursor_text c ≡ text → IsCursorOf c s → ⊥

-- no cursor has the text, or none that the source has; or there was no memory
abbrev pub IsNoCursor : Source → List ℕ → CursorFault → Type 0
IsNoCursor s text Text = (c : CursorParts) → IsWellFormed c → cursor_text c ≡ text → ⊥
IsNoCursor s text AnotherSource = IsOfAnother s text
IsNoCursor s text Memory = Unit {0}
