-- What is held of a source that is read line by line: lines that literals join, and no more past them than one read gives.
use Rattle.std.specs.Prelude.{◌≡◌, ◌⊎◌, ℕ, ◌≤◌, ◌<◌, true, List, [], ◌++◌, length, drop, Some, None, IsUtf8}
use Rattle.std.specs.Str.{chars}
use Rattle.pysource.specs.Streams.{Buffered, ComesOnly, ends_line, past_first}
use Rattle.pylex_lexeme.specs.declared.string.OpenLiteral.{OpenLiteral}
use Rattle.pylex_lexeme.specs.Lexemes.{Lexeme, lexeme_at, lexeme_len, left_by_cut, is_open_string}
use Rattle.pylex_lexeme.specs.OpenLiterals.{IsOpenBy}

-- From one reader of lines to another: nothing was taken, or what was taken past the lines that were given is no more than one read gives.
abbrev pub Ahead : Buffered → Buffered → Type 0
Ahead old new = ((new.count ≡ old.count) × (length new.pending ≤ length old.pending)) ⊎ (length new.pending ≤ 8_192)

-- the same, where the line that is due is perhaps there already
abbrev pub AheadBut : Buffered → Buffered → Type 0
AheadBut old new = ((new.count ≡ old.count) × (length new.pending ≤ length old.pending)) ⊎ (past_first new.pending ≤ 8_192)

-- After some characters, a literal is open at each line end within a text but its last.
abbrev pub IsJoined : List ℕ → List ℕ → Type 0
IsJoined before text = (front back : List ℕ) → text ≡ front ++ back → ends_line front ≡ true → 0 < length back
    → is_open_string (left_by_cut (chars (before ++ front))) ≡ true

-- From a text past lexemes, one after another, to what is left after them.
pub data LexedTo (left : List ℕ) : List ℕ → Type 0 where
  at_left : LexedTo left left
  past_lexeme : (cs : List ℕ) (x : Lexeme) → lexeme_at cs ≡ Some x → LexedTo left (drop (lexeme_len cs) cs) → LexedTo left cs

-- a literal stands here that is open up to the text's end
abbrev pub IsStuck : List ℕ → Type 0
IsStuck left = (lexeme_at (chars left) ≡ None) × (is_open_string (chars left) ≡ true)

-- lines in which a lister has looked up to a place, where it can't advance
pub record IsAtStop (text : List ℕ) (from : ℕ) : Type 0 where
  pub within : from ≤ length text
  pub utf8 : IsUtf8 text
  pub left : IsUtf8 (drop from text)
  pub joined : IsJoined [] text
  pub lexed : LexedTo (chars (drop from text)) (chars text)
  pub ends : (text ≡ []) ⊎ (ends_line text ≡ true)
  pub none : lexeme_at (chars (drop from text)) ≡ None
  pub opened : 0 < length (drop from text) → is_open_string (chars (drop from text)) ≡ true

-- What is held where more lines were read after such, of which this rest was left. If the last try for a line met none, the literal is open
-- still.
pub record Holds (old new : Buffered) (rest text left : List ℕ) : Type 0 where
  pub joined : IsJoined [] text
  pub lexed : LexedTo (chars left) (chars text)
  pub ahead : (start : Buffered) → AheadBut start old → Ahead start new ⊎ ((0 < length rest) × AheadBut start new × IsStuck left)

-- a literal is open from a place in a text up to its end
pub record IsOpenAt (o : OpenLiteral) (at : ℕ) (text : List ℕ) : Type 0 where
  pub within : at ≤ length text
  pub left : IsUtf8 (drop at text)
  pub lexed : LexedTo (chars (drop at text)) (chars text)
  pub opened : IsOpenBy o (chars (drop at text))
  pub none : lexeme_at (chars (drop at text)) ≡ None

-- A text is read further after a literal: its last line begins at an offset, and in front of that the literal is open.
pub record LinesAfter (o : OpenLiteral) (at from : ℕ) (old new : Buffered) (text : List ℕ) : Type 0 where
  pub front : List ℕ
  pub line : List ℕ
  pub whole : text ≡ front ++ line
  pub starts : length front ≡ from
  pub utf8 : IsUtf8 front
  pub line_utf8 : IsUtf8 line
  pub feed : ends_line front ≡ true
  pub opened : IsOpenAt o at front
  pub ends : (ends_line line ≡ true) ⊎ ComesOnly new None
  pub joined : IsJoined [] text
  pub ahead : Ahead old new

-- the literal ends in its last line, or is open after that, and no line came
pub record Joins (o : OpenLiteral) (at : ℕ) (old new : Buffered) (text : List ℕ) : Type 0 where
  pub joined : IsJoined [] text
  pub ahead : Ahead old new ⊎ (AheadBut old new × IsOpenAt o at text)
