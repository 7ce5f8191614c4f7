-- What is gathered of the rest of a line, from one spot of a listing to the next.
use Rattle.std.specs.Prelude.{◌≡◌, ℕ, ◌+◌, ◌-◌, ◌<◌, ◌≤◌, ◌&&◌, nat_lt, Bool, true, false, List, length, take, drop, Option, None}
use Rattle.std.specs.Prelude.{if◌then◌else◌}
use Rattle.std.specs.Str.{chars, IsUtf8}
use Rattle.pysource.specs.Parts.{Parts}
use Rattle.pylex_lexeme.specs.declared.kinds.Exact.{Exact}
use Rattle.pylex_lexeme.specs.declared.lexeme.Class.{Class}
use Rattle.pylex_lexeme.specs.Operators.{is_opener, is_closer}
use Rattle.pylex_listing.specs.declared.kind.Kind.{Kind}
use Rattle.pylex_listing.specs.declared.kind.Kind.TheVariants as kinds
use Rattle.pylex_listing.specs.declared.entries.Entry.{Entry}
use Rattle.pylex.specs.declared.spots.Spot.{Spot}
use Rattle.pylex_listing.specs.Listing.{in_characters, listing}
use Rattle.pylex.specs.Listers.{Listed}
use Rattle.pylex_listing.specs.Laws.{HasExact}
use Rattle.pylex.specs.Spots.{at_spot}
use Rattle.pylex_listing.specs.EntryKinds.{kind_of, operator_of}
use Rattle.pylex_listing.specs.Steps.{entries_of}
use Rattle.pytoken.specs.Tokens.{text_of}
use Rattle.pytoken.specs.Refusals.{most_brackets}
use Rattle.pyparse_tokens.specs.declared.pass.Pass.{Pass}
use Rattle.pyparse_tokens.specs.declared.line_gather.LineGather.{LineGather}
use Rattle.pyparse_tokens.specs.LineReadings.{lines_within}
use Rattle.pyparse_tokens.specs.Inner.Passing.{counted, kept_refusal, Gains}
use Rattle.pyparse_tokens.specs.Inner.OpenLines.{KeepsLine}
use Rattle.pyparse_tokens.specs.Inner.LineGathering.{front_line, TakesEntry, StandsAt, ReadsLine}

-- an entry of a text has this type, this exact type and this text of its own
pub record IsEntry (text : List ℕ) (k : Kind) (x : Option Exact) (own : List ℕ) (e : Entry) : Type 0 where
  pub has : HasExact text e
  pub kind : e.kind ≡ k
  pub exact : e.exact ≡ x
  pub own_text : text_of text e ≡ own

-- such an entry is taken, of whatever text it is
abbrev pub Takes : Kind → Option Exact → List ℕ → LineGather → LineGather → Type 0
Takes k x own old new = (text : List ℕ) (e : Entry) → IsEntry text k x own e → TakesEntry text e old new

-- a token, by its type, that is given as it stands
abbrev pub is_plain_token : Kind → Bool
is_plain_token k = elim k [ kinds.Name ↦ true | kinds.Number ↦ true | kinds.String ↦ true | _ ↦ false ]

-- the type of a line end, by whether a logical line ends by it
abbrev pub line_end_kind : Bool → Kind
line_end_kind ends = if ends then kinds.Newline else kinds.Nl

-- a line end is taken that ends at an offset
abbrev pub TakesLineEnd : List ℕ → Bool → ℕ → LineGather → LineGather → Type 0
TakesLineEnd text ends to old new = (own : List ℕ) (e : Entry) → IsEntry text (line_end_kind ends) None own e → e.to ≡ to
    → TakesEntry text e old new

-- the entry of a lexeme is taken, after which a lister stands at a spot
abbrev pub TakesLexeme : List ℕ → Class → List ℕ → Spot → LineGather → LineGather → Type 0
TakesLexeme text k own t old new = (e : Entry) → IsEntry text (kind_of k t.begun) (operator_of k) own e → e.to ≡ t.offset
    → TakesEntry text e old new

-- what is kept of an operator that opens no bracket too many
pub record PassesOperator (x : Exact) (old new : Pass) : Type 0 where
  pub few : (is_opener x && nat_lt most_brackets (old.opened + 1 - old.closed)) ≡ false
  pub rest : new ≡ record old { opened = counted old.opened (is_opener x); closed = counted old.closed (is_closer x) }

-- what is kept of a line end
abbrev pub PassesLineEnd : List ℕ → Bool → ℕ → Pass → Pass → Type 0
PassesLineEnd text ends to old new = (e : Entry) → e.kind ≡ line_end_kind ends → e.exact ≡ None → e.to ≡ to → Gains text e None old new

-- what was read since a lister stood somewhere: of the line that is open then
pub record Reads (p : Parts) (first now : Listed) (g : LineGather) : Type 0 where
  pub at : StandsAt p now g
  pub keeps : kept_refusal g.pass ≡ None
      → KeepsLine (front_line (chars p.text) (take now.shown.given (entries_of (listing (in_characters p))))) g.line
  pub same : kept_refusal g.pass ≡ None → lines_within (in_characters p) now.shown.given ≡ lines_within (in_characters p) first.shown.given

-- and where a line has ended since then
pub record Ended (p : Parts) (first now : Listed) (g : LineGather) : Type 0 where
  pub at : StandsAt p now g
  pub line : kept_refusal g.pass ≡ None → ReadsLine p first now g

-- from a spot to another, within the line or to its end
pub record Went (p : Parts) (levels : List ℕ) (s t : Spot) (old new : LineGather) : Type 0 where
  pub within : t.begun ≡ true → (first : Listed) → Reads p first (at_spot p s levels) old → Reads p first (at_spot p t levels) new
  pub ended : t.begun ≡ false → (first : Listed) → Reads p first (at_spot p s levels) old → Ended p first (at_spot p t levels) new

-- on the way: within the line at a spot, with what is left of the text there
pub record Walks (p : Parts) (levels : List ℕ) (s t : Spot) (old new : LineGather) (left : List ℕ) : Type 0 where
  pub utf8 : IsUtf8 left
  pub at : StandsAt p (at_spot p t levels) new
  pub reads : (first : Listed) → Reads p first (at_spot p s levels) old → Reads p first (at_spot p t levels) new
  pub within : t.begun ≡ true
  pub begun : new.pass.begun ≡ true
  pub extent : new.pass.extent ≡ old.pass.extent
  pub some : 0 < length new.line.terminals.items
  pub given : s.given ≤ t.given
  pub left_is : left ≡ drop t.offset p.text
