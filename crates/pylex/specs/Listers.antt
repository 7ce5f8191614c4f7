-- How a lister stands: a source in hand, and the cursor that it shows.
use Rattle.std.specs.Prelude.{◌≡◌, ℕ, ◌+◌, ◌-◌, ◌<◌, ◌≤◌, true, nat_lt, List, [], ◌∷◌, ◌++◌, length, take, drop, count_by, slice_get, Some}
use Rattle.std.specs.Str.{chars, IsUtf8}
use Rattle.pysource.specs.Limits.{source_limit}
use Rattle.pysource.specs.Parts.{Parts}
use Rattle.pylex_listing.specs.declared.entries.Step.{Step}
use Rattle.pylex.specs.declared.cursor.CursorPoint.{CursorPoint}
use Rattle.pylex_listing.specs.declared.leading_char.LeadingChar.TheVariants.{Nothing}
use Rattle.pylex.specs.declared.line_state.LineState.{LineState}
use Rattle.pylex_lexeme.specs.Cuts.{begins_significant}
use Rattle.pylex_lexeme.specs.Lexemes.{Lexeme, lexeme_at, lexeme_len}
use Rattle.pylex_lexeme.specs.Chars.{bytes_in}
use Rattle.pylex_listing.specs.Listing.{Source, in_characters, last_line, listing, rest}
use Rattle.pylex_listing.specs.Steps.{first_step, entries_in, IsIndent}
use Rattle.pylex.specs.Cursors.{CursorParts}
use Rattle.pylex_listing.specs.Machine.{State, gives, after, lead_after, layout_of, dedents_at}
use Rattle.pylex.specs.LineState.{with_levels, measured, Stands, IsAscending, StopAhead, Walks}
use Rattle.pylex.specs.Standing.{resumed, standing_by, Agrees, IsCursorOf}

-- a source in hand, and a cursor
pub record Listed : Type 0 where
  pub source : Parts
  pub shown : CursorParts

-- The lister stands in a source of which k entries have been given: it shows that source's cursor after them, and its own agrees with it
-- from there on.
pub record StandsIn (l : Listed) (a : Source) (k : ℕ) : Type 0 where
  pub cursor : IsCursorOf l.shown a
  pub count : l.shown.given ≡ k
  pub agrees : Agrees a (in_characters l.source) l.shown.offset

-- A cursor leads into a source: it is one of a source that agrees with this from the cursor's line on.
abbrev pub LeadsInto : CursorParts → Parts → Type 0
LeadsInto c p = (a : Source) × (IsCursorOf c a × Agrees a (in_characters p) c.offset)

-- the cursor that is shown at a state, directly after the last of k entries, which has text
abbrev pub shown_at : ℕ → State → CursorParts
shown_at k s = record {
  given = k;
  offset = s.now.offset;
  row = s.now.place.row;
  depth = s.depth;
  begun = s.logical;
  skip = 0;
  levels = s.levels;
}

-- From a state before some characters, past lexemes that give nothing and past n DEDENTs, to a state before others.
pub data Passes (t : State) (ds : List ℕ) : ℕ → State → List ℕ → Type 0 where
  here : Passes t ds 0 t ds
  lexeme : (n : ℕ) (s : State) (cs : List ℕ) (x : Lexeme) → lexeme_at cs ≡ Some x → gives s x ≡ []
      → Passes t ds n (after s x) (drop (lexeme_len cs) cs) → Passes t ds n s cs
  layout : (n : ℕ) (s : State) (cs : List ℕ) → s.margin ≡ true → begins_significant cs ≡ true
      → layout_of s ≡ dedents_at s.width s.levels s.now.offset s.now.place → Passes t ds n (measured s) cs
      → Passes t ds (count_by (nat_lt s.width) s.levels + n) s cs

-- From a lister to another by a step: in each source in which the first stands after k entries that step comes next, and the other stands
-- after it.
abbrev pub NextStep : Listed → Step → Listed → Type 0
NextStep old step new = (a : Source) (k : ℕ) → StandsIn old a k → (slice_get (listing a) k ≡ Some step) × StandsIn
    new a (k + entries_in step)

-- in each source in which the lister stands an INDENT comes next
abbrev pub AwaitsIndent : Listed → Type 0
AwaitsIndent l = (a : Source) (k : ℕ) → StandsIn l a k → IsIndent (first_step (rest a k))

-- a cursor, by its point, the levels above 0 that are open there, and the entries without text given after it
abbrev pub shown_by : ℕ → CursorPoint → List ℕ → ℕ → CursorParts
shown_by k p levels skip = record {
  given = k;
  offset = p.offset;
  row = p.row;
  depth = p.depth;
  begun = p.begun;
  skip =
      skip;
  levels = 0 ∷ levels;
}

-- a state stands in a text before these characters
pub record IsIn (text : List ℕ) (s : State) (ds : List ℕ) : Type 0 where
  pub before : List ℕ
  pub whole : text ≡ before ++ ds
  pub offset : s.now.offset ≡ bytes_in before
  pub column : s.now.place.column ≡ length (last_line before)
  pub lead : s.lead ≡ lead_after Nothing (last_line before)

-- What a lister keeps beside its cursor: how far it has looked from the cursor's point on, and how many of the levels above 0 that are open
-- there it has not closed.
pub record Keeps (l : Listed) (p : LineState) (left levels : List ℕ) (nested tail : ℕ) : Type 0 where
  pub utf8 : IsUtf8 l.source.text
  pub small : length l.source.text ≤ source_limit
  pub stood : (a : Source) × StandsIn l a l.shown.given
  pub stands : Stands p left
  pub ascending : IsAscending 0 levels
  pub within : nested ≤ length levels
  pub placed : IsIn (chars l.source.text) (with_levels p (0 ∷ take nested levels)) (chars left)
  pub came : Walks (with_levels p (0 ∷ take nested levels)) (chars left) (length levels - nested)
      (resumed l.shown (standing_by (in_characters l.source) l.shown).line) (standing_by (in_characters l.source) l.shown).left
  pub stop : 0 < tail → StopAhead p (chars left)
