-- What a source is listed as. Each part speaks of all that stands before it.
use Rattle.std.specs.Prelude.{ℕ, ◌+◌, Bool, true, false, not, ◌&&◌, ◌||◌, ◌==◌, List, [], ◌∷◌, ◌++◌, length, drop, reverse, if◌then◌else◌}
use Rattle.std.specs.Prelude.{Option, Some, None, option_map}
use Rattle.std.specs.List.{take_while}
use Rattle.std.specs.Str.{chars}
use Rattle.pysource.specs.Places.{place_after}
use Rattle.pysource.specs.Parts.{Parts}
use Rattle.pysource.specs.declared.faults.LineFault.{LineFault}
use Rattle.pylex_lexeme.specs.declared.kinds.Exact.{Exact}
use Rattle.pylex_lexeme.specs.declared.lexeme.Class.TheVariants.{Name, Number, String, Operator, Comment, Blanks, LineEnd, Join}
use Rattle.pysource.specs.declared.places.Place.{Place}
use Rattle.pylex_listing.specs.declared.kind.Kind.{Kind}
use Rattle.pylex_listing.specs.declared.kind.Kind.TheVariants as kinds
use Rattle.pylex_listing.specs.declared.entries.ListingFault.{ListingFault}
use Rattle.pylex_listing.specs.declared.entries.ListingError.TheVariants as errors
use Rattle.pylex_listing.specs.declared.entries.Step.{Step}
use Rattle.pylex_listing.specs.declared.entries.Step.TheVariants as steps
use Rattle.pylex_lexeme.specs.Chars.{is_blank_char}
use Rattle.pylex_lexeme.specs.Strings.{opens_string}
use Rattle.pylex_lexeme.specs.Operators.{is_closer}
use Rattle.pylex_lexeme.specs.Lexemes.{Lexeme, cut, left_by_cut, is_open_string}
use Rattle.pylex_listing.specs.Lines.{text_before, depth, is_significant, is_at_margin, is_logical}
use Rattle.pylex_listing.specs.Indentation.{widths, open_levels, layout, dedents}
use Rattle.pylex_listing.specs.Steps.{piece, mark, fault_at}
use Rattle.pylex_lexeme.specs.Characters.{line_feed, hash}

-- what decoding gives: the encoding's text, the good lines, and the fault of the line after them
pub record Source : Type 0 where
  pub encoding : List ℕ
  pub text : List ℕ
  pub fault : Option ListingFault

-- the fault of a faulty line, as one of the listing
abbrev pub of_line : LineFault → ListingFault
of_line f = record { code = errors.Line f.code; place = f.place }

-- a decoded source, its text as characters
abbrev pub in_characters : Parts → Source
in_characters p = record { encoding = p.encoding.name; text = chars p.text; fault = option_map of_line p.fault }

-- a line end is NL within brackets and on a blank or comment line (reference 2.1.5 to 2.1.7)
abbrev pub line_end_kind : List Lexeme → Kind
line_end_kind before = if is_logical before && (depth before == 0) then kinds.Newline else kinds.Nl

-- a line end ends on its row
abbrev pub further : Place → ℕ → Place
further p n = record { row = p.row; column = p.column + n }

abbrev pub lexeme_piece : Kind → Option Exact → List Lexeme → List ℕ → List Step
lexeme_piece k e before t = piece k e (text_before before) t (place_after (text_before before ++ t)) ∷ []

-- the entry of a lexeme; blanks and joins give none, and a closing bracket at depth 0 is a fault
unfoldable pub entry_of : List Lexeme → Lexeme → List Step
entry_of before x = elim x.«class» [
  | Name ↦ lexeme_piece kinds.Name None before x.text
  | Number ↦ lexeme_piece kinds.Number None before x.text
  | String ↦ lexeme_piece kinds.String None before x.text
  | Operator o ↦ if is_closer o && (depth before == 0) then fault_at errors.UnmatchedCloser (place_after (text_before before)) ∷ [] else
      lexeme_piece kinds.Op (Some o) before x.text
  | Comment ↦ lexeme_piece kinds.Comment None before x.text
  | Blanks ↦ []
  | LineEnd ↦ piece (line_end_kind before) None (text_before before) x.text
      (further (place_after (text_before before)) (length x.text)) ∷ []
  | Join ↦ []
]

-- the layout before a lexeme, if it is the first significant token of a logical line, and its entry
unfoldable pub steps_of : List Lexeme → Lexeme → List Step
steps_of before x = (if is_significant x then layout before else []) ++ entry_of before x

-- the fault where the cut stops before the text's end (reference 2.4.1)
unfoldable pub stop_fault : Option ListingFault → Place → List ℕ → Step
stop_fault fault p left =
    if not (opens_string left) then fault_at errors.BadCharacter p
    else (if not (is_open_string left) then fault_at errors.UnterminatedString p
    else elim fault [ Some f ↦ steps.Fault f | None ↦ fault_at errors.EofInString p ])

-- the row after the last line, an unfinished one counted
abbrev pub row_after : Place → ℕ
row_after end = if end.column == 0 then end.row else end.row + 1

-- the line that a text ends in
unfoldable pub last_line : List ℕ → List ℕ
last_line text = reverse (take_while (λ c. not (c == line_feed)) (reverse text))

-- the first character that isn't a blank is `#`
abbrev pub begins_comment : List ℕ → Bool
begins_comment [] = false
begins_comment (c ∷ cs) = if is_blank_char c then begins_comment cs else c == hash

-- what the text's end gives to a line without LF: an empty NL after a comment line, nothing after a line of blanks, else an empty NEWLINE
unfoldable pub line_end_of_last : List Lexeme → Place → List Step
line_end_of_last before end =
    if is_logical before then (if begins_comment (last_line (text_before before)) then [] else mark kinds.Newline (text_before before)
    end (further end 1) ∷ [])
    else (if is_at_margin before then [] else mark kinds.Nl (text_before before) end end ∷ [])

-- where the DEDENTs and ENDMARKER stand: on the row after the last line, or on that line if it holds blanks alone
unfoldable pub end_place : List Lexeme → Place → Place
end_place before end = record { row = if is_at_margin before then end.row else row_after end; column = 0 }

abbrev pub ends_in_join : List Lexeme → Bool
ends_in_join [] = false
ends_in_join (x ∷ before) = elim x.«class» [ Join ↦ true | _ ↦ false ]

-- what follows the lexemes of a text that is cut to its end
unfoldable pub tail : List Lexeme → Place → List Step
tail before end =
    if not (depth before == 0) || ends_in_join before then fault_at errors.EofInStatement (record { row = row_after end; column = 0 }) ∷ []
    else line_end_of_last before end ++ dedents 0 (open_levels (widths before)) (text_before before) (end_place before end) ++ mark
    kinds.EndMarker (text_before before) (end_place before end) (end_place before end) ∷ steps.End ∷ []

-- what follows the lexemes of a text: what is left of it where the cut stops, and the fault of the line after it
unfoldable pub stop : Option ListingFault → List Lexeme → List ℕ → List Step
stop fault before left =
    if not (length left == 0) then layout before ++ stop_fault fault (place_after (text_before before)) left ∷ []
    else elim fault [ Some f ↦ steps.Fault f ∷ [] | None ↦ tail before (place_after (text_before before)) ]

-- all that follows a place: the lexemes before it, and those after it
abbrev pub steps_from : Option ListingFault → List ℕ → List Lexeme → List Lexeme → List Step
steps_from fault left before [] = stop fault before left
steps_from fault left before (x ∷ xs) = steps_of before x ++ steps_from fault left (x ∷ before) xs

-- the steps up to the first that is no entry
abbrev pub up_to_end : List Step → List Step
up_to_end [] = []
up_to_end (steps.Entry e ∷ ss) = steps.Entry e ∷ up_to_end ss
up_to_end (steps.End ∷ ss) = steps.End ∷ []
up_to_end (steps.Fault f ∷ ss) = steps.Fault f ∷ []

abbrev pub origin : Place
origin = record { row = 0; column = 0 }

-- the listing of a source: ENCODING, the entries of its lexemes, the tail; its last step is End or the one Fault
unfoldable pub listing : Source → List Step
listing s = up_to_end (mark kinds.Encoding [] origin origin ∷ steps_from s.fault (left_by_cut s.text) [] (cut s.text))

-- the listing without its first k entries
abbrev pub rest : Source → ℕ → List Step
rest s k = drop k (listing s)
