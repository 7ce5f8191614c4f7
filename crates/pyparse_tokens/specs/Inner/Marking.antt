-- What is kept of where the tokens of a line stand.
use Rattle.std.specs.Prelude.{◌≡◌, ℕ, true, List, [], take, slice_get, Some, None, if◌then◌else◌, Option}
use Rattle.std.specs.List.{flat_map}
use Rattle.std.specs.Str.{chars}
use Rattle.pysource.specs.Parts.{Parts}
use Rattle.pylex_lexeme.specs.declared.lexeme.Class.{Class}
use Rattle.pylex_listing.specs.declared.entries.Entry.{Entry}
use Rattle.pylex_listing.specs.Listing.{in_characters, listing}
use Rattle.pylex.specs.Listers.{Listed}
use Rattle.pylex_listing.specs.EntryKinds.{kind_of}
use Rattle.pylex_listing.specs.Steps.{entries_of}
use Rattle.pytoken.specs.Tokens.{Line, text_of, lines}
use Rattle.pyparse_marks.specs.Spans.{Span, added}
use Rattle.pyparse_marks.specs.TokenSpans.{token_spans}
use Rattle.pyparse_marks.specs.LineSpans.{spans_of, line_spans}
use Rattle.pyparse_tokens.specs.declared.line_gather.LineGather.{LineGather}
use Rattle.pyparse_tokens.specs.Inner.Passing.{kept_refusal}
use Rattle.pyparse_tokens.specs.Inner.LineGathering.{stands_in_line, front_line, lines_given}
use Rattle.pyparse_tokens.specs.Inner.Walking.{Reads}

-- what an entry adds to the spans of the line that is open
abbrev pub entry_spans : List ℕ → Entry → List Span
entry_spans text e = if stands_in_line e.kind then token_spans e.«from» e.kind (text_of text e) else []

-- and a lexeme in it, of this text, that begins at a byte
abbrev pub lexeme_spans : Class → List ℕ → ℕ → List Span
lexeme_spans k own at = if stands_in_line (kind_of k true) then token_spans at (kind_of k true) own else []

-- Where a lister stands, and nothing is refused: what was kept where the line began, with the spans of its tokens so far.
abbrev pub KeepsMarks : Parts → Listed → LineGather → Option (List Span) → Option (List Span) → Type 0
KeepsMarks p l g start marks = kept_refusal g.pass ≡ None
    → marks ≡ added start (flat_map (spans_of (chars p.text))
    (front_line (chars p.text) (take l.shown.given (entries_of (listing (in_characters p))))))

-- so it goes on, from one place of a line to another
abbrev pub GoesOn : Parts → Listed → LineGather → Option (List Span) → Listed → LineGather → Option (List Span) → Type 0
GoesOn p from old was to new now = (start : Option (List Span)) → KeepsMarks p from old start was → KeepsMarks p to new start now

-- what is kept is what was kept where the line began, with the spans of the line after those before a place
abbrev pub MarksLine : Parts → Listed → Option (List Span) → Option (List Span) → Type 0
MarksLine p first start marks = (line : Line) → slice_get (lines (in_characters p)) (lines_given p first) ≡ Some line
    → marks ≡ added start (line_spans (chars p.text) line)

-- so it is where the line has ended, since some place in it
abbrev pub ComesToEnd : Parts → Listed → LineGather → Option (List Span) → Option (List Span) → Type 0
ComesToEnd p from old was now = (start : Option (List Span)) (first : Listed) → Reads p first from old → KeepsMarks p from old start was
    → MarksLine p first start now
