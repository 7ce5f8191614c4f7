-- The lines of a source that a reader gives. Python language reference, 2.1.2 "Physical lines" and 2.1.4 "Encoding declarations".
use Rattle.std.specs.Prelude.{◌≡◌, ◌⊎◌, ℕ, ◌+◌, ◌-◌, ◌≤◌, max, Bool, true, false, not, ◌&&◌, ◌||◌, ◌==◌, List, [], ◌∷◌, ◌++◌, length, take}
use Rattle.std.specs.Prelude.{Option, None, Some, Result, Ok, Err, slice_index, if◌then◌else◌, IsUtf8}
use Rattle.std.specs.List.{filter}
use Rattle.std.specs.Option.{option_or}
use Rattle.std.specs.Str.{chars}
use Rattle.std.specs.declared.alloc.AllocError.{AllocError}
use Rattle.pysource.specs.Names.{Named}
use Rattle.pysource.specs.Parts.{Parts}
use Rattle.pysource.specs.Places.{is_lf}
use Rattle.pysource.specs.Lines.{lines_of, good_text, line_fault, first_bad}
use Rattle.pysource.specs.Cookies.{encoding_of, without_mark, cookie_of, leads_on}
use Rattle.pysource.specs.Sources.{nth_line}
use Rattle.pysource.specs.Bytes.{Seen}
use Rattle.pysource.specs.Taking.{ReadsBytes}
use Rattle.pysource.specs.Limits.{source_limit}
use Rattle.pysource.specs.declared.encodings.Charset.{Charset}
use Rattle.pysource.specs.declared.encodings.SourceFault.{SourceFault}
use Rattle.pysource.specs.declared.encodings.SourceFault.TheVariants as cookies
use Rattle.pysource.specs.declared.faults.LineFault.{LineFault}
use Rattle.pysource.specs.declared.faults.LineError.{LineError}
use Rattle.pysource.specs.declared.faults.LineError.TheVariants.{FailedRead}
use Rattle.pysource.specs.declared.line_reader.Reach.{Reach}
use Rattle.pysource.specs.declared.line_reader.Reach.TheVariants.{Reading, End, Broken, Passed}
use Rattle.pysource.specs.declared.line_reader.LineRead.{LineRead}
use Rattle.pysource.specs.declared.line_reader.LineRead.TheVariants as lines
use Rattle.pysource.specs.declared.line_reader.StreamFault.{StreamFault}
use Rattle.pysource.specs.declared.line_reader.StreamFault.TheVariants.{UnsupportedEncoding, BomConflict, Read, Memory}

-- the last byte is a line feed
abbrev pub ends_line : List ℕ → Bool
ends_line line = is_lf (slice_index line (length line - 1))

-- The lines of bytes. Where a read failed after the bytes, a last line without line feed isn't whole, and is none of them.
abbrev pub lines_read : Bool → List ℕ → List (List ℕ)
lines_read broken bytes = if broken then filter ends_line (lines_of bytes) else lines_of bytes

-- the fault of the line that could not be read whole
abbrev pub unread : ℕ → LineFault
unread row = record { code = FailedRead; place = record { row = row; column = 0 } }

-- the text of good lines, and the fault that ends it
pub record Coming : Type 0 where
  pub text : List ℕ
  pub fault : Option LineFault

-- What bytes are in a character set, where their first line has this row.
-- A failed read is the fault of the line that it cut off, unless a line before that is faulty.
unfoldable pub coming : Charset → ℕ → Bool → List ℕ → Coming
coming charset row broken bytes = let lines = lines_read broken bytes in
    record {
      text = good_text charset lines;
      fault =
          option_or (line_fault charset row lines) (if broken then Some (unread (row + length lines)) else None);
    }

-- the second line is searched for a cookie
abbrev pub searches_second : List ℕ → Bool
searches_second first = (length (cookie_of (without_mark first)) == 0) && leads_on (without_mark first)

-- the lines that decide the encoding were read whole
abbrev pub decides : Bool → List ℕ → Bool
decides broken bytes =
    not broken || (ends_line (nth_line bytes 0) && (not (searches_second (nth_line bytes 0)) || ends_line (nth_line bytes 1)))

-- why bytes are no source, as it is reported of a stream
abbrev pub of_source : SourceFault → StreamFault
of_source (cookies.UnsupportedEncoding place) = UnsupportedEncoding place
of_source (cookies.BomConflict place) = BomConflict place
of_source cookies.Memory = Memory

-- the source under an encoding, or why it is none
unfoldable pub stream_under : Result Named SourceFault → Bool → List ℕ → Result Parts StreamFault
stream_under (Ok named) broken bytes = let c = coming named.charset 1 broken (without_mark bytes) in
    Ok (record { encoding = named; text = c.text; fault = c.fault })
stream_under (Err fault) broken bytes = Err (of_source fault)

-- the source that a reader gives: its bytes, and whether a read failed after them
unfoldable pub stream_of : Bool → List ℕ → Result Parts StreamFault
stream_of broken bytes = if decides broken bytes then stream_under (encoding_of (nth_line bytes 0) (nth_line bytes 1))
    broken bytes else Err Read

-- an answer on bytes that are there as a whole, as a reader's
abbrev pub as_stream : Result Parts SourceFault → Result Parts StreamFault
as_stream (Ok parts) = Ok parts
as_stream (Err fault) = Err (of_source fault)

-- A line reader: the encoding, the row of the line that is due, the bytes taken and not yet given, how far reading has come, how many bytes
-- it took in all,
-- and the fault of the line that ended it.
pub record Buffered : Type 0 where
  pub encoding : Named
  pub row : ℕ
  pub pending : List ℕ
  pub reach : Reach
  pub count : ℕ
  pub fault : Option LineFault

-- what may follow the bytes taken: at the end nothing, after a failed read nothing
abbrev pub FollowsAt : Reach → List ℕ → Bool → Type 0
FollowsAt Reading more broken = Unit {0}
FollowsAt End more broken = (more ≡ []) × (broken ≡ false)
FollowsAt Broken more broken = (more ≡ []) × (broken ≡ true)
FollowsAt Passed more broken = (more ≡ []) × (broken ≡ true)

abbrev pub Follows : Buffered → List ℕ → Bool → Type 0
Follows b more broken = FollowsAt b.reach more broken

-- what is still to come where bytes follow, and perhaps a failed read
abbrev pub comes_under : Option LineFault → Coming → Coming
comes_under None c = c
comes_under (Some fault) c = record { text = []; fault = Some fault }

unfoldable pub comes : Buffered → List ℕ → Bool → Coming
comes b more broken = comes_under b.fault (coming b.encoding.charset b.row broken (b.pending ++ more))

abbrev pub onto : List ℕ → Coming → Coming
onto line c = record { text = line ++ c.text; fault = c.fault }

-- From one to another past bytes that were taken, and a line that was given: whatever follows, that line comes first.
abbrev pub Gives : Buffered → List ℕ → List ℕ → Buffered → Type 0
Gives old taken line new = (more : List ℕ) (broken : Bool) → Follows new more broken →
    Follows old (taken ++ more) broken × (comes old (taken ++ more) broken ≡ onto line (comes new more broken))

-- what a call did to its reader
abbrev pub Reads : Seen → Seen → Buffered → Buffered → List ℕ → Type 0
Reads seen_old seen_new old new taken = ReadsBytes seen_old seen_new old.reach new.reach old.count new.count taken

-- exactly one line
pub record IsLine (line : List ℕ) : Type 0 where
  pub one : lines_of line ≡ line ∷ []
  pub utf8 : IsUtf8 line

-- nothing but this comes
abbrev pub ComesOnly : Buffered → Option LineFault → Type 0
ComesOnly b fault = (more : List ℕ) (broken : Bool) → Follows b more broken → comes b more broken ≡ record { text = []; fault = fault }

-- a line may still come: it isn't so that nothing does but the end, or one fault
abbrev pub MayCome : Buffered → Type 0
MayCome b = (fault : Option LineFault) → ComesOnly b fault → ⊥

-- What an answer says of the line that was given with it. After a last line without line feed nothing comes, and at the end nothing is
-- pending.
-- Memory runs out only where a line may still come: never after the end, a faulty line or a failed read.
abbrev pub Tells : Result LineRead AllocError → List ℕ → Buffered → Type 0
Tells (Ok lines.Text) line new = IsLine line × ((ends_line line ≡ true) ⊎ ComesOnly new None)
Tells (Ok lines.End) line new = (line ≡ []) × ComesOnly new None × (new.pending ≡ [])
Tells (Ok (lines.Fault f)) line new = (line ≡ []) × (new.fault ≡ Some f) × ComesOnly new (Some f)
Tells (Ok lines.Read) line new = (line ≡ []) × ((new.reach ≡ Broken) ⊎ (new.reach ≡ Passed)) × ComesOnly new (Some (unread new.row))
Tells (Err e) line new = (line ≡ []) × MayCome new

-- the fault of a bad byte of a line
abbrev pub fault_at : ℕ → List ℕ → ℕ × LineError → LineFault
fault_at row line bad = record { code = bad.1; place = record { row = row; column = length (chars (take bad.0 line)) } }

-- a good line is appended to a text; memory is wanted only for such
abbrev pub PushesLine : Charset → ℕ → List ℕ → List ℕ → List ℕ → Result (Option LineFault) AllocError → Type 0
PushesLine charset row line old new (Ok None) = (first_bad charset line ≡ None) × IsUtf8 line × (new ≡ old ++ line)
PushesLine charset row line old new (Ok (Some fault)) = (bad : ℕ × LineError) × (first_bad charset line ≡ Some bad) ×
    (fault ≡ fault_at row line bad) × (new ≡ old)
PushesLine charset row line old new (Err e) = (first_bad charset line ≡ None) × (new ≡ old)

-- how many bytes stand after the first line of some
abbrev pub past_first : List ℕ → ℕ
past_first bytes = length bytes - length (nth_line bytes 0)

-- a line is given
abbrev pub IsText : Result LineRead AllocError → Type 0
IsText result = result ≡ Ok lines.Text

-- a call of `next_line`
pub record NextLine (seen_old seen_new : Seen) (old new : Buffered) (chunk_old chunk_new : List ℕ)
    (result : Result LineRead AllocError) : Type 0 where
  pub taken : List ℕ
  pub line : List ℕ
  pub reads : Reads seen_old seen_new old new taken
  pub gives : Gives old taken line new
  pub chunk : chunk_new ≡ chunk_old ++ line
  pub tells : Tells result line new
  pub sizes : length line + length new.pending ≡ length old.pending + length taken
  -- no more is taken past the line than one read gives
  pub ahead : IsText result → length new.pending ≤ max 8_192 (length old.pending - length line)
  pub first : IsText result → length (nth_line old.pending 0) ≤ length line
  -- nor where the line that is due is kept
  pub kept : (IsText result → ⊥) → (new.pending ≡ old.pending) ⊎ (past_first new.pending ≤ 8_192)
  pub same : new.encoding ≡ old.encoding

-- what the lines take that decide the encoding
abbrev pub head_len : List ℕ → ℕ
head_len bytes = length (nth_line bytes 0) + (if searches_second (nth_line bytes 0) then length (nth_line bytes 1) else 0)

-- a reader of lines was opened
pub record Opens (seen_old seen_new : Seen) (b : Buffered) : Type 0 where
  pub taken : List ℕ
  pub reads : ReadsBytes seen_old seen_new Reading b.reach 0 b.count taken
  pub source : (more : List ℕ) (broken : Bool) → Follows b more broken →
      stream_of broken (taken ++ more) ≡ Ok (record {
        encoding = b.encoding;
        text = (comes b more broken).text;
        fault =
            (comes b more broken).fault;
      })
  pub row : b.row ≡ 1
  pub fault : b.fault ≡ None
  pub within : b.count ≤ source_limit
  pub pending : length b.pending ≤ b.count
  -- no more is taken past the lines that decide than one read gives
  pub ahead : b.count ≤ 8_192 + head_len taken

-- why a reader of lines could not be opened: how far reading had come, and what the source is then
abbrev pub Explains : StreamFault → Reach → (List ℕ → Bool → Result Parts StreamFault) → Type 0
Explains Memory reach source = reach ≡ Reading
Explains Read reach source = ((reach ≡ Broken) ⊎ (reach ≡ Passed)) × ((more : List ℕ) (broken : Bool) → FollowsAt reach more broken
    → source more broken ≡ Err Read)
Explains (UnsupportedEncoding place) reach source =
    ((reach ≡ Reading) ⊎ (reach ≡ End)) × ((more : List ℕ) (broken : Bool) → FollowsAt reach more broken
    → source more broken ≡ Err (UnsupportedEncoding place))
Explains (BomConflict place) reach source =
    ((reach ≡ Reading) ⊎ (reach ≡ End)) × ((more : List ℕ) (broken : Bool) → FollowsAt reach more broken
    → source more broken ≡ Err (BomConflict place))

pub record Refuses (seen_old seen_new : Seen) (fault : StreamFault) : Type 0 where
  pub taken : List ℕ
  pub reach : Reach
  pub reads : ReadsBytes seen_old seen_new Reading reach 0 (length taken) taken
  pub explains : Explains fault reach (λ more broken. stream_of broken (taken ++ more))

-- how an opening ended
abbrev pub Open : Seen → Seen → Result Buffered StreamFault → Type 0
Open seen_old seen_new (Ok b) = Opens seen_old seen_new b
Open seen_old seen_new (Err e) = Refuses seen_old seen_new e
