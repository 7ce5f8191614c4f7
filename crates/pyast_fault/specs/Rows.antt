-- How a row of a source is shown, with a caret below a place in it.
use Rattle.std.specs.Prelude.{ℕ, ◌+◌, ◌-◌, ◌==◌, ◌||◌, not, List, [], ◌∷◌, ◌++◌, codes, length, take, drop, nat_eq, nat_le, replicate}
use Rattle.std.specs.Prelude.{if◌then◌else◌}
use Rattle.std.specs.List.{ends_with, flat_map}
use Rattle.std.specs.Str.{chars, encode_utf8_all}
use Rattle.std.specs.Str.Lossy.{utf8_valid_len}
use Rattle.pysource.specs.Characters.{tab, line_feed, carriage_return, space}
use Rattle.pysource.specs.Cookies.{without_mark}
use Rattle.pysource.specs.Reprs.{is_unprintable, hex_escape}
use Rattle.pysource.specs.Sources.{nth_line}
use Rattle.pysource.specs.declared.places.Place.{Place}

-- ---- The row.

-- a line without its line end
abbrev pub without_line_end : List ℕ → List ℕ
without_line_end line =
    if ends_with nat_eq line (carriage_return ∷ line_feed ∷ []) then take (length line - 2) line
    else (if ends_with nat_eq line (line_feed ∷ []) then take (length line - 1) line else line)

-- the longest front that is UTF-8
abbrev pub utf8_front : List ℕ → List ℕ
utf8_front bytes = take (utf8_valid_len bytes) bytes

-- the text of a row, from 1, as far as it is UTF-8; empty where the source has no such row
abbrev pub row_text : List ℕ → ℕ → List ℕ
row_text bytes row = utf8_front (without_line_end (nth_line (without_mark bytes) (row - 1)))

-- ---- What is shown of it.

-- the most characters of a row that are shown
abbrev pub widest : ℕ
widest = 160

-- of a longer row, how many stand before the column
abbrev pub most_before : ℕ
most_before = 80

-- a tab and what is printable as they are, all else as an escape
abbrev pub shown_char : ℕ → List ℕ
shown_char c = if c == tab || not (is_unprintable c) then c ∷ [] else hex_escape c

-- the first character of a row that is shown
abbrev pub first_shown : List ℕ → ℕ → ℕ
first_shown row column = if nat_le (length row) widest then 0 else column - most_before

-- the characters that are shown of a row
abbrev pub shown_row : List ℕ → ℕ → List ℕ
shown_row row column = flat_map shown_char (take widest (drop (first_shown row column) row))

-- ---- The caret.

-- below a tab a tab, below another character as many blanks as it is shown by
abbrev pub below_char : ℕ → List ℕ
below_char c = if c == tab then tab ∷ [] else replicate (length (shown_char c)) space

-- what stands below some characters, and a blank for each that is missing
abbrev pub below : ℕ → List ℕ → List ℕ
below count row = flat_map below_char (take count row) ++ replicate (count - length row) space

-- the characters of the line below a row, which has a caret below the column
abbrev pub caret_line : List ℕ → ℕ → List ℕ
caret_line row column = let first = first_shown row column in below (column - first) (drop first row) ++ codes "^"

-- ---- Both lines.

-- the row of a place of a source, and below it the line with the caret
abbrev pub row_and_caret : List ℕ → Place → List ℕ
row_and_caret bytes place = let row = chars (row_text bytes place.row) in
    encode_utf8_all (shown_row row place.column) ++ (codes "\n" ++ (caret_line row place.column ++ codes "\n"))
