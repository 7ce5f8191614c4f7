-- The lines of bytes, and the first bad byte of a line. Python language reference, 2.1.2 "Physical lines":
-- here a line ends at its line feed, and a carriage return directly before that belongs to the line end.
use Rattle.std.specs.Prelude.{ℕ, zero, suc, ◌+◌, not, ◌&&◌, List, [], ◌∷◌, ◌++◌, length, take, nat_le, ◌==◌, slice_index, Option, None}
use Rattle.std.specs.Prelude.{Some, if◌then◌else◌}
use Rattle.std.specs.List.{onto_first}
use Rattle.std.specs.Option.{option_map_or}
use Rattle.std.specs.Str.{chars}
use Rattle.std.specs.Str.Lossy.{utf8_valid_len}
use Rattle.pysource.specs.Characters.{carriage_return}
use Rattle.pysource.specs.Places.{is_lf}
use Rattle.pysource.specs.declared.encodings.Charset.{Charset}
use Rattle.pysource.specs.declared.encodings.Charset.TheVariants.{Utf8, Ascii}
use Rattle.pysource.specs.declared.faults.LineError.{LineError}
use Rattle.pysource.specs.declared.faults.LineError.TheVariants.{NotUtf8, NotAscii, LoneReturn}
use Rattle.pysource.specs.declared.faults.LineFault.{LineFault}

-- Each line ends with its line feed. The last may lack it.
unfoldable pub lines_of : List ℕ → List (List ℕ)
lines_of [] = []
lines_of (b ∷ bs) = if is_lf b then (b ∷ []) ∷ lines_of bs else onto_first b (lines_of bs)

-- a carriage return that no line feed follows
abbrev pub lone_return_at : List ℕ → ℕ → Option LineError
lone_return_at line i = if slice_index line i == carriage_return && not (is_lf (slice_index line (i + 1))) then Some LoneReturn else None

-- what is wrong with the byte at i: in UTF-8 the bad byte is the one after the longest front that is UTF-8
abbrev pub bad_at : Charset → List ℕ → ℕ → Option LineError
bad_at Utf8 line i = if i == utf8_valid_len line then Some NotUtf8 else lone_return_at line i
bad_at Ascii line i = if nat_le 128 (slice_index line i) then Some NotAscii else lone_return_at line i

-- what a byte is that the character set does not allow
abbrev pub invalid : Charset → LineError
invalid Utf8 = NotUtf8
invalid Ascii = NotAscii

-- the first of the n numbers from i on at which f gives something, and what it gives
abbrev pub first_given : {X : Type 0} → (ℕ → Option X) → ℕ → ℕ → Option (ℕ × X)
first_given f i zero = None
first_given f i (suc n) = option_map_or (λ x. Some (i, x)) (f i) (first_given f (i + 1) n)

-- the first bad byte of a line, and what is wrong with it
abbrev pub first_bad : Charset → List ℕ → Option (ℕ × LineError)
first_bad charset line = first_given (bad_at charset line) 0 (length line)

-- the text of the lines before the first that has a bad byte
unfoldable pub good_text : Charset → List (List ℕ) → List ℕ
good_text charset [] = []
good_text charset (line ∷ lines) = option_map_or (λ _. []) (first_bad charset line) (line ++ good_text charset lines)

-- the fault of that line, where the first line has this row; its column is the characters before the bad byte
unfoldable pub line_fault : Charset → ℕ → List (List ℕ) → Option LineFault
line_fault charset row [] = None
line_fault charset row (line ∷ lines) =
    option_map_or (λ bad. Some (record { code = bad.1; place = record { row = row; column = length (chars (take bad.0 line)) } }))
    (first_bad charset line)
    (line_fault charset (row + 1) lines)
