-- What is kept of the line that is open.
use Rattle.std.specs.Prelude.{◌≡◌, ℕ, ◌<◌, ◌&&◌, Bool, List, [], ◌∷◌, ◌++◌, length, map, Option, Some, None}
use Rattle.std.specs.List.{flat_map}
use Rattle.std.specs.Str.{chars, bytes_eq}
use Rattle.pysource.specs.declared.places.Place.{Place}
use Rattle.pytoken.specs.Terminals
use Rattle.pytoken.specs.Tokens.{Token}
use Rattle.pytoken.specs.TerminalOf.{terminal}
use Rattle.pytoken.specs.declared.values.terminals.Terminal.{Terminal}
use Rattle.pyparse_tokens.specs.declared.open_line.OpenLine.{OpenLine}
use Rattle.pyparse_tokens.specs.LineReadings.{first_start, token_terminals}

-- what a line begins with, after one token more that has this, by the terminals before
abbrev pub of_first : {A : Type 0} → List Terminal → A → A → A
of_first [] p q = q
of_first (t ∷ ts) p q = p

-- the texts of a line's first and last token are those of the header of a `match` statement
abbrev pub spell_match : (first last : List ℕ) → Bool
spell_match first last = bytes_eq first (109 ∷ 97 ∷ 116 ∷ 99 ∷ 104 ∷ []) && bytes_eq last (58 ∷ [])

-- those that are kept are
abbrev pub keeps_match : OpenLine → Bool
keeps_match l = spell_match (chars l.first.now) (chars l.last.now)

-- one token more is kept, that starts here, of this text and these terminals
pub record Pushes (place : Place) (own : List ℕ) (ts : List Terminals.Terminal) (old new : OpenLine) : Type 0 where
  pub terminals : map terminal new.terminals.items ≡ map terminal old.terminals.items ++ ts
  pub start : new.start ≡ of_first old.terminals.items old.start place
  pub first : chars new.first.now ≡ of_first old.terminals.items (chars old.first.now) own
  pub last : chars new.last.now ≡ own

-- the text of the first and of the last token of a line
abbrev pub first_text : List Token → Option (List ℕ)
first_text [] = None
first_text (t ∷ ts) = Some t.text

abbrev pub last_text : List Token → Option (List ℕ)
last_text [] = None
last_text (t ∷ []) = Some t.text
last_text (t ∷ ts) = last_text ts

-- these tokens are kept; where there is one, a terminal is
pub record KeepsLine (line : List Token) (l : OpenLine) : Type 0 where
  pub terminals : map terminal l.terminals.items ≡ flat_map token_terminals line
  pub some : 0 < length line → 0 < length l.terminals.items
  pub start : (p : Place) → first_start line ≡ Some p → l.start ≡ p
  pub first : (t : List ℕ) → first_text line ≡ Some t → chars l.first.now ≡ t
  pub last : (t : List ℕ) → last_text line ≡ Some t → chars l.last.now ≡ t
