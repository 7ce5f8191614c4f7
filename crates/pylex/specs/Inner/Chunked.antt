-- What reading on does to the lines that a lister holds.
use Rattle.std.specs.Prelude.{◌≡◌, ◌⊎◌, ℕ, ◌+◌, ◌≤◌, ◌<◌, true, List, [], ◌++◌, length, drop, string_bytes, Some, None, Result, Ok, Err}
use Rattle.std.specs.Prelude.{IsUtf8}
use Rattle.std.specs.declared.alloc.AllocError.{AllocError}
use Rattle.pysource.specs.Bytes.{Seen}
use Rattle.pysource.specs.Streams.{Buffered, Reads, Gives, ComesOnly, MayCome, IsLine, ends_line, unread}
use Rattle.pysource.specs.Limits.{source_limit}
use Rattle.pysource.specs.declared.line_reader.LineRead.{LineRead}
use Rattle.pysource.specs.declared.line_reader.LineRead.TheVariants as met
use Rattle.pylex.specs.declared.held_lines.HeldLines.{HeldLines}
use Rattle.pylex.specs.Held.{Ahead, AheadBut, IsAtStop, Holds}

pub record IsHeldLines (c : HeldLines) : Type 0 where
  pub spare : string_bytes c.spare ≡ []
  pub at : c.at ≤ length (string_bytes c.text)

-- What is held and what is left grow by a line, and lines that were looked at may be gone from their front.
pub record Grows (old new : HeldLines) (from : ℕ) (line : List ℕ) : Type 0 where
  pub gone : List ℕ
  pub whole : string_bytes old.text ++ line ≡ gone ++ string_bytes new.text
  pub base : new.base ≡ old.base + length gone
  pub looked : (gone ≡ []) ⊎ (gone ≡ string_bytes old.text)
  pub following : 0 < length gone → drop from (string_bytes old.text) ≡ []
  pub left : drop new.at (string_bytes new.text) ≡ drop from (string_bytes old.text) ++ line

-- nothing that is held was changed
pub record Stays (old new : HeldLines) : Type 0 where
  pub text : string_bytes new.text ≡ string_bytes old.text
  pub base : new.base ≡ old.base
  pub at : new.at ≡ old.at

-- what an answer says of the lines held
abbrev pub Holding : HeldLines → HeldLines → ℕ → List ℕ → Result LineRead AllocError → Type 0
Holding old new from line (Ok met.Text) = Grows old new from line
Holding old new from line (Ok met.End) = Stays old new
Holding old new from line (Ok (met.Fault f)) = Stays old new
Holding old new from line (Ok met.Read) = Stays old new
Holding old new from line (Err e) = Stays old new

-- what an answer says of the text that was added: at the source's end, a faulty line and a failed read it is none; memory runs out only
-- where a line may come
abbrev pub Adds : Result LineRead AllocError → List ℕ → Buffered → Type 0
Adds (Ok met.Text) line new = (0 < length line) × IsUtf8 line × ((ends_line line ≡ true) ⊎ ComesOnly new None)
Adds (Ok met.End) line new = (line ≡ []) × ComesOnly new None × (new.pending ≡ [])
Adds (Ok (met.Fault f)) line new = (line ≡ []) × ComesOnly new (Some f)
Adds (Ok met.Read) line new = (line ≡ []) × ComesOnly new (Some (unread new.row))
Adds (Err e) line new = (line ≡ []) × MayCome new

-- a chunk that reads on from a place in it
pub record ReadsOn (seen_old seen_new : Seen) (old new : HeldLines) (from : ℕ) (result : Result LineRead AllocError) : Type 0 where
  pub taken : List ℕ
  pub line : List ℕ
  pub reads : Reads seen_old seen_new old.lines new.lines taken
  pub gives : Gives old.lines taken line new.lines
  pub adds : Adds result line new.lines
  pub same : new.lines.encoding ≡ old.lines.encoding
  pub sizes : length line + length new.lines.pending ≡ length old.lines.pending + length taken
  pub within : new.lines.count ≤ source_limit
  pub chunk : IsHeldLines new
  pub holding : Holding old new from line result

-- Further lines were read after a text.
pub record AddsOn (seen_old seen_new : Seen) (old new : Buffered) (text_old text_new : List ℕ) : Type 0 where
  pub taken : List ℕ
  pub added : List ℕ
  pub reads : Reads seen_old seen_new old new taken
  pub gives : Gives old taken added new
  pub text : text_new ≡ text_old ++ added
  pub utf8 : IsUtf8 added
  pub ends : (added ≡ []) ⊎ ((ends_line added ≡ true) ⊎ ComesOnly new None)
  pub same : new.encoding ≡ old.encoding
  pub sizes : length added + length new.pending ≡ length old.pending + length taken
  pub within : new.count ≤ source_limit

-- a text that grew by another
abbrev pub IsLonger : List ℕ → List ℕ → Type 0
IsLonger old new = (added : List ℕ) × IsUtf8 added × (new ≡ old ++ added)

-- a line was read after those held
pub record IsLineMore (old new : HeldLines) (from : ℕ) : Type 0 where
  pub line : List ℕ
  pub is : IsLine line
  pub text : string_bytes new.text ≡ string_bytes old.text ++ line
  pub ends : (ends_line line ≡ true) ⊎ ComesOnly new.lines None
  pub ahead : (start : Buffered) → AheadBut start old.lines → Ahead start new.lines
  pub at : new.at ≡ from

abbrev pub AddsLine : HeldLines → HeldLines → ℕ → Result LineRead AllocError → Type 0
AddsLine old new from (Ok met.Text) = IsLineMore old new from
AddsLine old new from (Ok met.End) = Unit {0}
AddsLine old new from (Ok (met.Fault f)) = Unit {0}
AddsLine old new from (Ok met.Read) = Unit {0}
AddsLine old new from (Err e) = Unit {0}

-- what is held where lines were read from a place at which a lister can't advance
abbrev pub HoldsOn : HeldLines → HeldLines → ℕ → Result LineRead AllocError → Type 0
HoldsOn old new from (Ok met.Text) = IsAtStop (string_bytes old.text) from → Holds old.lines new.lines (drop from (string_bytes old.text))
    (string_bytes new.text) (drop new.at (string_bytes new.text))
HoldsOn old new from (Ok met.End) = Unit {0}
HoldsOn old new from (Ok (met.Fault f)) = Unit {0}
HoldsOn old new from (Ok met.Read) = Unit {0}
HoldsOn old new from (Err e) = Unit {0}
