-- What one pass over a listing gathers of its lines after some entries.
use Rattle.std.specs.Prelude.{◌≡◌, ℕ, ◌+◌, ◌-◌, ◌<◌, ◌≤◌, ◌&&◌, Bool, true, false, List, [], ◌∷◌, ◌++◌, length, take, map, count_by}
use Rattle.std.specs.Prelude.{slice_get, Some, None, if◌then◌else◌}
use Rattle.std.specs.List.{flat_map}
use Rattle.std.specs.Str.{chars}
use Rattle.pysource.specs.declared.places.Place.{Place}
use Rattle.pysource.specs.Parts.{Parts}
use Rattle.pylex_listing.specs.declared.kind.Kind.{Kind}
use Rattle.pylex_listing.specs.declared.kind.Kind.TheVariants as kinds
use Rattle.pylex_listing.specs.declared.entries.Entry.{Entry}
use Rattle.pylex_listing.specs.Listing.{in_characters, listing}
use Rattle.pylex.specs.Listers.{Listed, StandsIn}
use Rattle.pylex_listing.specs.Laws.{IsWhole, AllLie, HaveExact}
use Rattle.pylex_listing.specs.Steps.{most_entries, entries_of}
use Rattle.pytoken.specs.Inner.Following.{following}
use Rattle.pytoken.specs.Terminals
use Rattle.pytoken.specs.Terminals.{terminals_of}
use Rattle.pytoken.specs.Tokens.{Token, Line, text_of, tokens_from, lines_from, lines}
use Rattle.pytoken.specs.Refusals.{entry_refusal}
use Rattle.pytoken.specs.MatchHeaders.{is_match}
use Rattle.pytoken.specs.TerminalOf.{terminal}
use Rattle.pyparse_tokens.specs.declared.line_gather.LineGather.{LineGather}
use Rattle.pyparse_tokens.specs.declared.open_line.OpenLine.{OpenLine}
use Rattle.pyparse_tokens.specs.LineReadings.{first_start, token_terminals, lines_within}
use Rattle.pyparse_tokens.specs.Inner.Passing.{counted, Gains, Passed}
use Rattle.pyparse_tokens.specs.Inner.OpenLines.{of_first, keeps_match}

-- a token of this type stands in a line
abbrev pub stands_in_line : Kind → Bool
stands_in_line k = elim k [ kinds.Name ↦ true | kinds.Number ↦ true | kinds.String ↦ true | kinds.Op ↦ true | _ ↦ false ]

-- an entry of this type ends the line that is open
abbrev pub ends_open_line : Kind → Bool
ends_open_line k = elim k [ kinds.Newline ↦ true | kinds.Dedent ↦ true | kinds.EndMarker ↦ true | _ ↦ false ]

abbrev pub is_indent : Kind → Bool
is_indent k = elim k [ kinds.Indent ↦ true | _ ↦ false ]

abbrev pub is_dedent : Kind → Bool
is_dedent k = elim k [ kinds.Dedent ↦ true | _ ↦ false ]

-- the line that is open ends by an entry, by whether it has a token
abbrev pub ended_by : Entry → Bool → Bool
ended_by e begun = ends_open_line e.kind && begun

-- what an entry adds to the line that is open
abbrev pub own_terminals : List ℕ → Entry → List Terminals.Terminal
own_terminals text e = if stands_in_line e.kind then terminals_of e.kind (text_of text e) else []

-- where ENDMARKER starts, after an entry that may be it
abbrev pub marker_after : Entry → Place → Place
marker_after e p = elim e.kind [ kinds.EndMarker ↦ e.start | _ ↦ p ]

-- what an entry without a fault of its own adds to the line that is open
pub record Adds (text : List ℕ) (e : Entry) (old new : OpenLine) : Type 0 where
  pub terminals : map terminal new.terminals.items ≡ map terminal old.terminals.items ++ own_terminals text e
  pub start : new.start ≡ (if stands_in_line e.kind then of_first old.terminals.items old.start e.start else old.start)
  pub first : chars new.first.now ≡ (if stands_in_line e.kind then of_first old.terminals.items (chars old.first.now) (text_of text e)
      else chars old.first.now)
  pub last : chars new.last.now ≡ (if stands_in_line e.kind then text_of text e else chars old.last.now)

-- what is gathered after one entry more
pub record TakesEntry (text : List ℕ) (e : Entry) (old new : LineGather) : Type 0 where
  pub pass : Gains text e (entry_refusal old.pass.extent text e) old.pass new.pass
  pub level : ended_by e old.pass.begun ≡ true → new.level ≡ old.indents - old.dedents
  pub indents : new.indents ≡ counted old.indents (is_indent e.kind)
  pub dedents : new.dedents ≡ counted old.dedents (is_dedent e.kind)
  pub marker : new.marker ≡ marker_after e old.marker
  pub line : entry_refusal old.pass.extent text e ≡ None → Adds text e old.line new.line

-- the tokens of the line that is open after some tokens
abbrev pub line_following : List Token → List Token → List Token
line_following line [] = line
line_following line (t ∷ ts) = elim t.kind [
  | kinds.Newline ↦ line_following [] ts
  | kinds.Indent ↦ line_following line ts
  | kinds.Dedent ↦ line_following line ts
  | kinds.EndMarker ↦ line_following line ts
  | _ ↦ line_following (line ++ t ∷ []) ts
]

-- of some entries the tokens, the line that is open after them, and the lines
abbrev pub front_tokens : List ℕ → List Entry → List Token
front_tokens text es = tokens_from text [] es

abbrev pub front_line : List ℕ → List Entry → List Token
front_line text es = line_following [] (front_tokens text es)

abbrev pub front_lines : List ℕ → List Entry → List Line
front_lines text es = lines_from [] [] (front_tokens text es)

-- what is kept of faults and of levels is what the entries say, and where a line is open it has a token
pub record Counts (text : List ℕ) (es : List Entry) (g : LineGather) : Type 0 where
  pub pass : Passed text es g.pass
  pub indents : g.indents ≡ count_by (λ t. is_indent t.kind) (following [] (front_tokens text es))
  pub dedents : g.dedents ≡ count_by (λ t. is_dedent t.kind) (following [] (front_tokens text es))
  pub few_indents : g.indents ≤ length es
  pub few_dedents : g.dedents ≤ length es
  pub some : g.pass.begun ≡ true → 0 < length (front_line text es)
  pub marker : (before : List Entry) (e : Entry) → es ≡ before ++ e ∷ [] → e.kind ≡ kinds.EndMarker → g.marker ≡ e.start

-- a lister and what is gathered stand after the same entries of a source
pub record StandsAt (p : Parts) (l : Listed) (g : LineGather) : Type 0 where
  pub source : l.source ≡ p
  pub stands : StandsIn l (in_characters p) l.shown.given
  pub within : l.shown.given ≤ length (entries_of (listing (in_characters p)))
  pub few : l.shown.given ≤ most_entries
  pub whole : IsWhole (in_characters p)
  pub lies : AllLie p.text (listing (in_characters p))
  pub exact : HaveExact (in_characters p)
  pub counts : Counts (chars p.text) (take l.shown.given (entries_of (listing (in_characters p)))) g

-- and no line is open there that has a token
pub record StandsBetween (p : Parts) (l : Listed) (g : LineGather) : Type 0 where
  pub at : StandsAt p l g
  pub closed : front_line (chars p.text) (take l.shown.given (entries_of (listing (in_characters p)))) ≡ []

-- how many lines of a source are after a lister
abbrev pub lines_given : Parts → Listed → ℕ
lines_given p l = length (lines_within (in_characters p) l.shown.given)

-- the next line was read: what is kept of it, and where the reader stands then
pub record ReadsLine (p : Parts) (old new : Listed) (g : LineGather) : Type 0 where
  pub between : StandsBetween p new g
  pub given : lines_given p new ≡ lines_given p old + 1
  pub line : Line
  pub stands : slice_get (lines (in_characters p)) (lines_given p old) ≡ Some line
  pub level : g.level ≡ line.level
  pub terminals : map terminal g.line.terminals.items ≡ flat_map token_terminals line.tokens
  pub start : first_start line.tokens ≡ Some g.line.start
  pub is_match : keeps_match g.line ≡ is_match line.tokens
