-- The source that bytes are. Python language reference, 2.1.2 "Physical lines" and 2.1.4 "Encoding declarations".
use Rattle.std.specs.Prelude.{◌≡◌, ℕ, List, [], Result, Ok, Err, slice_index_or}
use Rattle.pysource.specs.Names.{Named}
use Rattle.pysource.specs.Parts.{Parts}
use Rattle.pysource.specs.Lines.{lines_of, good_text, line_fault}
use Rattle.pysource.specs.Cookies.{encoding_of, without_mark}
use Rattle.pysource.specs.declared.encodings.SourceFault.{SourceFault}
use Rattle.pysource.specs.declared.encodings.SourceFault.TheVariants.{UnsupportedEncoding, BomConflict, Memory}

-- a line with its line end, and nothing where there is none
abbrev pub nth_line : List ℕ → ℕ → List ℕ
nth_line bytes n = slice_index_or (lines_of bytes) n []

-- the text and the line fault under an encoding
abbrev pub parts_under : Named → List ℕ → Parts
parts_under named bytes = let lines = lines_of (without_mark bytes) in
    record { encoding = named; text = good_text named.charset lines; fault = line_fault named.charset 1 lines }

-- the same where the encoding may be refused
abbrev pub source_under : Result Named SourceFault → List ℕ → Result Parts SourceFault
source_under (Ok named) bytes = Ok (parts_under named bytes)
source_under (Err fault) bytes = Err fault

-- the source that the bytes are, or why they are none
abbrev pub source_of : List ℕ → Result Parts SourceFault
source_of bytes = source_under (encoding_of (nth_line bytes 0) (nth_line bytes 1)) bytes

-- an answer is the stated one, unless memory ran out
abbrev pub UnlessMemory : {X : Type 0} → Result X SourceFault → Result X SourceFault → Type 0
UnlessMemory (Err Memory) stated = Unit {0}
UnlessMemory (Err (UnsupportedEncoding place)) stated = stated ≡ Err (UnsupportedEncoding place)
UnlessMemory (Err (BomConflict place)) stated = stated ≡ Err (BomConflict place)
UnlessMemory (Ok x) stated = stated ≡ Ok x
