-- The tokens that the grammar reads: a listing without its encoding, comments and empty lines (reference 2.1.1 to 2.1.8).
use Rattle.std.specs.Prelude.{ℕ, ◌-◌, Bool, true, false, List, [], ◌∷◌, ◌++◌, count_by, slice_range, if◌then◌else◌}
use Rattle.std.specs.Str.{chars, encode_utf8_all}
use Rattle.pysource.specs.declared.places.Place.{Place}
use Rattle.pysource.specs.Places.{place_after}
use Rattle.pylex_listing.specs.declared.kind.Kind.{Kind}
use Rattle.pylex_listing.specs.declared.kind.Kind.TheVariants as kinds
use Rattle.pylex_listing.specs.declared.entries.Entry.{Entry}
use Rattle.pylex_listing.specs.Listing.{Source, listing}
use Rattle.pylex_listing.specs.Steps.{entries_of}

-- a token: its type, where it starts, and its text
pub record Token : Type 0 where
  pub kind : Kind
  pub start : Place
  pub text : List ℕ

-- what stands between an entry's offsets in a text
abbrev pub text_of : List ℕ → Entry → List ℕ
text_of text e = chars (slice_range (encode_utf8_all text) e.«from» e.to)

-- the token of an entry of a text
abbrev pub token_of : List ℕ → Entry → Token
token_of text e = record { kind = e.kind; start = e.start; text = text_of text e }

-- the NEWLINE that stands for a missing one: of empty text, at the text's end
abbrev pub supplied : List ℕ → Token
supplied text = record { kind = kinds.Newline; start = place_after text; text = [] }

-- a line has tokens and no NEWLINE yet; the entries before stand last first
abbrev pub is_open : List Entry → Bool
is_open [] = false
is_open (e ∷ before) = elim e.kind [
  | kinds.Comment ↦ is_open before
  | kinds.Nl ↦ is_open before
  | kinds.Name ↦ true
  | kinds.Number ↦ true
  | kinds.String ↦ true
  | kinds.Op ↦ true
  | _ ↦ false
]

-- The tokens of an entry. ENCODING, COMMENT and NL give none, nor does a NEWLINE that closes no token.
-- Where a DEDENT or ENDMARKER meets an open line, the line's NEWLINE is missing and is supplied.
abbrev pub tokens_of_entry : List ℕ → Bool → Entry → List Token
tokens_of_entry text begun e = elim e.kind [
  | kinds.Encoding ↦ []
  | kinds.Comment ↦ []
  | kinds.Nl ↦ []
  | kinds.Newline ↦ if begun then token_of text e ∷ [] else []
  | kinds.Dedent ↦ if begun then supplied text ∷ token_of text e ∷ [] else token_of text e ∷ []
  | kinds.EndMarker ↦ if begun then supplied text ∷ token_of text e ∷ [] else token_of text e ∷ []
  | _ ↦ token_of text e ∷ []
]

-- the tokens of some entries; those before them stand last first
abbrev pub tokens_from : List ℕ → List Entry → List Entry → List Token
tokens_from text before [] = []
tokens_from text before (e ∷ es) = tokens_of_entry text (is_open before) e ++ tokens_from text (e ∷ before) es

-- the tokens of a source
unfoldable pub tokens : Source → List Token
tokens s = tokens_from s.text [] (entries_of (listing s))

-- a logical line that has tokens: the number of levels above 0 that are open at it, and its tokens up to its NEWLINE
pub record Line : Type 0 where
  pub level : ℕ
  pub tokens : List Token

abbrev is : Kind → Token → Bool
is kinds.Indent t = elim t.kind [ kinds.Indent ↦ true | _ ↦ false ]
is kinds.Dedent t = elim t.kind [ kinds.Dedent ↦ true | _ ↦ false ]
is _ t = false

-- the levels that are open after some tokens: INDENTs less DEDENTs
abbrev pub level_after : List Token → ℕ
level_after before = count_by (is kinds.Indent) before - count_by (is kinds.Dedent) before

-- the lines from a place on: the tokens before it, those of its line so far, and those after it
abbrev pub lines_from : List Token → List Token → List Token → List Line
lines_from before line [] = []
lines_from before line (t ∷ ts) = elim t.kind [
  | kinds.Newline ↦ record { level = level_after before; tokens = line } ∷ lines_from (t ∷ before) [] ts
  | kinds.Indent ↦ lines_from (t ∷ before) line ts
  | kinds.Dedent ↦ lines_from (t ∷ before) line ts
  | kinds.EndMarker ↦ lines_from (t ∷ before) line ts
  | _ ↦ lines_from (t ∷ before) (line ++ t ∷ []) ts
]

-- the logical lines of a source
unfoldable pub lines : Source → List Line
lines s = lines_from [] [] (tokens s)
