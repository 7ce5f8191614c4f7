-- How a lister stands that reads its source line by line.
use Rattle.std.specs.Prelude.{◌≡◌, ◌≢◌, ◌⊎◌, ℕ, ◌+◌, ◌<◌, ◌≤◌, Bool, true, List, [], ◌++◌, length, take, suc, false, slice_get, Option}
use Rattle.std.specs.Prelude.{Some, None, Result, Ok, IfOk, OnErr}
use Rattle.std.specs.declared.alloc.AllocError.{AllocError}
use Rattle.std.specs.Str.{chars}
use Rattle.pysource.specs.Bytes.{Seen}
use Rattle.pysource.specs.Parts.{Parts}
use Rattle.pysource.specs.Streams.{Buffered, Follows, MayCome, comes, ends_line, head_len, stream_of, unread, Reads, Refuses, Coming}
use Rattle.pysource.specs.Taking.{ReadsBytes}
use Rattle.pysource.specs.declared.line_reader.Reach.{Reach}
use Rattle.pylex.specs.declared.line_lister.ResumeFault.{ResumeFault}
use Rattle.pylex.specs.declared.line_lister.ResumeFault.TheVariants as resumes
use Rattle.pysource.specs.Limits.{source_limit}
use Rattle.pysource.specs.declared.faults.LineError.TheVariants.{FailedRead}
use Rattle.pysource.specs.declared.line_reader.LineRead.TheVariants as lines
use Rattle.pylex_lexeme.specs.Lexemes.{left_by_cut, is_open_string}
use Rattle.pylex.specs.LineState.{Comes, IsMeasuring, StopAhead}
use Rattle.pysource.specs.declared.line_reader.Reach.TheVariants as reach
use Rattle.pysource.specs.declared.line_reader.StreamFault.TheVariants as faults
use Rattle.pylex_listing.specs.declared.entries.Entry.{Entry}
use Rattle.pylex_listing.specs.declared.entries.ListingError.TheVariants as errors
use Rattle.pylex_listing.specs.declared.entries.ListingFault.{ListingFault}
use Rattle.pylex_listing.specs.declared.entries.ListingError.{ListingError}
use Rattle.pylex_listing.specs.declared.entries.Step.{Step}
use Rattle.pylex_listing.specs.declared.entries.Step.TheVariants as steps
use Rattle.pylex_listing.specs.declared.kind.Kind.TheVariants as kinds
use Rattle.pylex.specs.declared.line_state.LineState.{LineState}
use Rattle.pylex.specs.Held.{Ahead, IsJoined}
use Rattle.pylex.specs.Cursors.{CursorParts}
use Rattle.pylex_listing.specs.Listing.{listing, in_characters, rest}
use Rattle.pylex_listing.specs.Steps.{entries_of, entries_in, fault_of, first_step, IsIndent, IsNoEntry}
use Rattle.pylex_listing.specs.Laws.{LiesIn}
use Rattle.pylex.specs.Standing.{IsCursorOf}
use Rattle.pylex.specs.Listers.{StandsIn, Keeps}

-- A lister over lines: the lines that are to come, the cursor that it shows, the text that it holds and where that begins, how far it has
-- looked, and the entry that it gave last.
pub record Streamed : Type 0 where
  pub lines : Buffered
  pub shown : CursorParts
  pub base : ℕ
  pub held : List ℕ
  pub left : List ℕ
  pub now : LineState
  pub levels : List ℕ
  pub nested : ℕ
  pub tail : ℕ
  pub last : Option Entry

-- what may follow the bytes that were taken, of a source within its limit
abbrev pub Continues : Buffered → List ℕ → Bool → Type 0
Continues b more broken = Follows b more broken × (b.count + length more ≤ source_limit)

-- what is to come after the text that is held
abbrev pub ahead : Streamed → List ℕ → Bool → Coming
ahead v more broken = comes v.lines more broken

-- an entry's text stands in a text that is held from an offset on
pub record IsHeld (base : ℕ) (held : List ℕ) (e : Entry) : Type 0 where
  pub begins : base ≤ e.«from»
  pub ends : e.to ≤ base + length held

-- if an entry was given last, its text is held, and for the encoding, which has none in the source, nothing
abbrev pub HoldsLast : ℕ → List ℕ → List ℕ → Option Entry → Type 0
HoldsLast base held text None = Unit {0}
HoldsLast base held text (Some e) =
    ((e.kind ≡ kinds.Encoding) × (held ≡ [])) ⊎ ((e.kind ≢ kinds.Encoding) × IsHeld base held e × LiesIn text e)

-- Where these bytes follow, and perhaps a failed read, the lister stands in a source of which k entries have been given: the text that it
-- holds is whole lines of that, and after them comes what is to come.
pub record StreamsIn (v : Streamed) (p : Parts) (k : ℕ) (more : List ℕ) (broken : Bool) : Type 0 where
  pub before : List ℕ
  pub whole : p.text ≡ before ++ (v.held ++ (ahead v more broken).text)
  pub base : length before ≡ v.base
  pub begins : (before ≡ []) ⊎ (ends_line before ≡ true)
  -- what stands before is lexed whole, and what is held are lines that literals join
  pub closed : left_by_cut (chars before) ≡ []
  pub joined : IsJoined before v.held
  pub ends : (v.held ≡ []) ⊎ ((ends_line v.held ≡ true) ⊎ ((ahead v more broken).text ≡ []))
  pub encoding : p.encoding ≡ v.lines.encoding
  pub fault : p.fault ≡ (ahead v more broken).fault
  pub stands : StandsIn (record { source = p; shown = v.shown }) (in_characters p) k
  pub keeps : Keeps (record { source = p; shown = v.shown }) v.now (v.left ++ (ahead v more broken).text) v.levels v.nested v.tail
  pub measuring : IsMeasuring v.now
  pub last : HoldsLast v.base v.held p.text v.last

-- a lister that has begun over a reader, after k entries: what it took, and in which sources it stands
pub record Begins (seen_old seen_new : Seen) (v : Streamed) (k : ℕ) : Type 0 where
  pub taken : List ℕ
  pub reads : ReadsBytes seen_old seen_new reach.Reading v.lines.reach 0 v.lines.count taken
  -- no more is taken past the lines that are held, and those that decide the encoding, than one read gives
  pub ahead : (length v.lines.pending ≤ 8_192) ⊎ (v.lines.count ≤ 8_192 + head_len taken)
  pub stands : (more : List ℕ) (broken : Bool) → Continues v.lines more broken → (p : Parts) × (stream_of broken (taken ++ more) ≡ Ok p) ×
      StreamsIn v p k more broken

-- A lister that has begun at a source's start: nothing is held, and no more is taken past the lines that decide the encoding than one read
-- gives.
pub record BeginsAnew (seen_old seen_new : Seen) (v : Streamed) : Type 0 where
  pub begins : Begins seen_old seen_new v 0
  pub ahead : v.lines.count ≤ 8_192 + head_len begins.taken
  pub held : v.held ≡ []

-- the entry that was given last
abbrev pub IsLast : Streamed → Step → Type 0
IsLast v (steps.Entry e) = v.last ≡ Some e
IsLast v steps.End = Unit {0}
IsLast v (steps.Fault f) = Unit {0}

-- an entry is given: nothing was taken for it, or no more past the lines that are held than one read gives
abbrev pub IsAhead : Buffered → Buffered → Step → Type 0
IsAhead old new (steps.Entry e) = Ahead old new
IsAhead old new steps.End = Unit {0}
IsAhead old new (steps.Fault f) = Unit {0}

-- A line has to be read: past what gives nothing, nothing is left of the lines held, or a literal that is open, and it isn't so that
-- nothing comes but the end, or one fault.
pub record AwaitsLine (v : Streamed) : Type 0 where
  pub begun : 0 < v.shown.given
  pub there : LineState
  pub following : List ℕ
  pub passes : Comes (take v.nested v.levels) v.now (chars v.left) there following
  pub stop : StopAhead there following
  pub lacks : (following ≡ []) ⊎ (is_open_string following ≡ true)
  pub line : MayCome v.lines

-- A step: in each source in which the lister stood it comes next, and the lister stands after it. If memory runs out, it stands where it
-- stood.
-- Memory runs out only where a line has to be read, or an INDENT comes next. After the end, a fault and a failed read that is never so.
pub record Next (seen_old seen_new : Seen) (old new : Streamed) (result : Result Step AllocError) : Type 0 where
  pub taken : List ℕ
  pub reads : Reads seen_old seen_new old.lines new.lines taken
  pub follows : (more : List ℕ) (broken : Bool) → Continues new.lines more broken → Continues old.lines (taken ++ more) broken
  pub steps : IfOk result (λ step. (p : Parts) (k : ℕ) (more : List ℕ) (broken : Bool) → Continues new.lines more broken
      → StreamsIn old p k (taken ++ more) broken
      → (slice_get (listing (in_characters p)) k ≡ Some step) × StreamsIn new p (k + entries_in step) more broken)
  pub last : IfOk result (IsLast new)
  pub ahead : IfOk result (IsAhead old.lines new.lines)
  pub same : OnErr result ((p : Parts) (k : ℕ) (more : List ℕ) (broken : Bool) → Continues new.lines more broken
      → StreamsIn old p k (taken ++ more) broken → StreamsIn new p k more broken)
  pub refused : OnErr result (AwaitsLine old ⊎ ((p : Parts) (k : ℕ) (more : List ℕ) (broken : Bool) → Continues new.lines more broken
      → StreamsIn old p k (taken ++ more) broken → IsIndent (first_step (rest (in_characters p) k))))
  pub ended : IfOk result (λ step. IsNoEntry step → AwaitsLine new → ⊥)

-- a source's listing ends by a line that could not be read whole, before this many entries
pub record EndsUnread (p : Parts) (n : ℕ) : Type 0 where
  pub fault : (f : ListingFault) × (fault_of (listing (in_characters p)) ≡ Some f) × (f.code ≡ errors.Line FailedRead)
  pub before : suc (length (entries_of (listing (in_characters p)))) ≤ n

-- A lister that could not resume after a cursor: a read failed before it, or the source has no such cursor.
pub record Misses (seen_old seen_new : Seen) (cursor : CursorParts) (unread : Bool) : Type 0 where
  pub taken : List ℕ
  pub lines : Buffered
  pub reads : ReadsBytes seen_old seen_new reach.Reading lines.reach 0 lines.count taken
  pub misses : (more : List ℕ) (broken : Bool) → Continues lines more broken → (p : Parts) × (stream_of broken (taken ++ more) ≡ Ok p) ×
      (IsCursorOf cursor (in_characters p) → ⊥) × (unread ≡ true → EndsUnread p cursor.given) × (unread ≡ false
      → EndsUnread p cursor.given → ⊥)

-- a call took bytes from a reader
pub record Took (seen_old seen_new : Seen) : Type 0 where
  pub taken : List ℕ
  pub at : Reach
  pub reads : ReadsBytes seen_old seen_new reach.Reading at 0 (length taken) taken

-- why a lister could not resume after a cursor
abbrev pub ResumeRefusal : Seen → Seen → CursorParts → ResumeFault → Type 0
ResumeRefusal seen_old seen_new cursor (resumes.Stream fault) =
    Refuses seen_old seen_new fault ⊎ (((fault ≡ faults.Read) × Misses seen_old seen_new cursor true) ⊎
    ((fault ≡ faults.Memory) × Took seen_old seen_new))
ResumeRefusal seen_old seen_new cursor resumes.AnotherSource = Misses seen_old seen_new cursor false

-- a step reports a line that could not be read whole
abbrev pub is_unread_code : ListingError → Bool
is_unread_code (errors.Line FailedRead) = true
is_unread_code code = false

abbrev pub is_unread : Step → Bool
is_unread (steps.Fault f) = is_unread_code f.code
is_unread s = false
