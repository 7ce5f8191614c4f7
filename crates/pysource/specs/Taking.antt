-- How reads take bytes, and how far they have come.
use Rattle.std.specs.Prelude.{◌≡◌, ◌≢◌, ◌⊎◌, ℕ, ◌+◌, ◌-◌, ◌<◌, ◌≤◌, max, List, [], ◌++◌, length, Option, None, Some, Result, Ok, Err}
use Rattle.std.specs.Prelude.{slice_index}
use Rattle.std.specs.Io.KnownBytes.{Consumes, IsAtEnd}
use Rattle.std.specs.declared.alloc.AllocError.{AllocError}
use Rattle.pysource.specs.Bytes.{Seen, IsSteady}
use Rattle.pysource.specs.Limits.{source_limit}
use Rattle.pysource.specs.declared.buffers.Intake.{Intake}
use Rattle.pysource.specs.declared.line_reader.Reach.{Reach}
use Rattle.pysource.specs.declared.line_reader.Reach.TheVariants.{Reading, End, Broken, Passed}
use Rattle.pysource.specs.declared.line_reader.StreamFault.{StreamFault}
use Rattle.pysource.specs.declared.line_reader.StreamFault.TheVariants.{UnsupportedEncoding, BomConflict, Read, Memory}
use Rattle.pysource.specs.Characters.{line_feed}

-- how many reads failed on the way
abbrev pub fails : Reach → ℕ
fails Reading = 0
fails End = 0
fails Broken = 1
fails Passed = 0

-- What reads took from a reader: some bytes, and the one that passes the limit, which is lost.
pub record ReadsBytes (seen_old seen_new : Seen) (reach_old reach_new : Reach) (count_old count_new : ℕ) (taken : List ℕ) : Type 0 where
  pub lost : List ℕ
  pub consumes : Consumes seen_old.to_come seen_new.to_come (taken ++ lost)
  pub count : count_new ≡ count_old + length taken
  pub within : count_old ≤ source_limit → count_new ≤ source_limit
  pub told : seen_new.failures + fails reach_old ≡ seen_old.failures + fails reach_new
  pub steady : IsSteady seen_old seen_new
  pub passed : 0 < length lost → (reach_new ≡ Passed) × (count_new ≡ source_limit)
  pub newly : reach_old ≢ Passed → reach_new ≡ Passed → 0 < length lost
  -- the end is reported only where no byte is to come
  pub ended : reach_old ≢ End → reach_new ≡ End → IsAtEnd seen_new.to_come
  -- once reading is over nothing more is read
  pub over : reach_old ≢ Reading → (reach_new ≡ reach_old) × (taken ++ lost ≡ []) × (seen_new ≡ seen_old)

-- what reads took stands after the bytes that were there
pub record Grows (seen_old seen_new : Seen) (old new : Intake) : Type 0 where
  pub taken : List ℕ
  pub takes : ReadsBytes seen_old seen_new old.reach new.reach old.count new.count taken
  pub bytes : new.buffer ≡ old.buffer ++ taken

-- one read into a buffer
pub record Gave (seen_old seen_new : Seen) (most : ℕ) (old new : List ℕ) (count : ℕ) : Type 0 where
  pub taken : List ℕ
  pub consumes : Consumes seen_old.to_come seen_new.to_come taken
  pub bytes : new ≡ old ++ taken
  pub size : length taken ≡ count
  pub short : count ≤ most
  pub ended : count ≡ 0 → IsAtEnd seen_new.to_come
  pub told : seen_new.failures ≡ seen_old.failures
  pub steady : IsSteady seen_old seen_new

-- none was made, or it failed
pub record GaveNone (seen_old seen_new : Seen) (old new : List ℕ) (failed : ℕ) : Type 0 where
  pub consumes : Consumes seen_old.to_come seen_new.to_come []
  pub bytes : new ≡ old
  pub told : seen_new.failures ≡ seen_old.failures + failed
  pub steady : IsSteady seen_old seen_new

abbrev pub GaveInto : Seen → Seen → ℕ → List ℕ → List ℕ → Result (Option ℕ) AllocError → Type 0
GaveInto seen_old seen_new most old new (Ok (Some count)) = Gave seen_old seen_new most old new count
GaveInto seen_old seen_new most old new (Ok None) = GaveNone seen_old seen_new old new 1
GaveInto seen_old seen_new most old new (Err e) = GaveNone seen_old seen_new old new 0

-- no line feed stands from `start` up to `end`
abbrev pub NoLfFrom : ℕ → ℕ → List ℕ → Type 0
NoLfFrom start end bytes = (k : ℕ) → start ≤ k → k < end → slice_index bytes k ≢ line_feed

-- a line from `start` up to `end`, the last byte of which is its line feed
pub record LineAt (start end : ℕ) (bytes : List ℕ) : Type 0 where
  pub some : start < end
  pub within : end ≤ length bytes
  pub before : NoLfFrom start (end - 1) bytes
  pub at : slice_index bytes (end - 1) ≡ line_feed

pub record LineThere (start end : ℕ) (old new : Intake) : Type 0 where
  pub line : LineAt start end new.buffer
  pub reach : new.reach ≡ old.reach
  -- no more is taken past the line than one read gives
  pub ahead : length new.buffer ≤ max (end + 8_192) (length old.buffer)

pub record LineCut (start : ℕ) (new : Intake) : Type 0 where
  pub none : NoLfFrom start (length new.buffer) new.buffer
  pub over : new.reach ≢ Reading

-- the line that begins at `start` was searched
abbrev pub FoundLine : ℕ → Intake → Intake → Result (Option ℕ) AllocError → Type 0
FoundLine start old new (Ok (Some end)) = LineThere start end old new
FoundLine start old new (Ok None) = LineCut start new
FoundLine start old new (Err e) = (new.reach ≡ Reading) × NoLfFrom start (length new.buffer) new.buffer

-- a last line without line feed, or nothing, at the reader's end
pub record LineLeft (start end : ℕ) (new : Intake) : Type 0 where
  pub none : NoLfFrom start (length new.buffer) new.buffer
  pub reach : new.reach ≡ End
  pub all : end ≡ length new.buffer

-- a line without line feed, where no more can be read
pub record LineUnread (start : ℕ) (new : Intake) : Type 0 where
  pub none : NoLfFrom start (length new.buffer) new.buffer
  pub reach : (new.reach ≡ Broken) ⊎ (new.reach ≡ Passed)

-- a line that decides the encoding
abbrev pub FoundHead : ℕ → Intake → Intake → Result ℕ StreamFault → Type 0
FoundHead start old new (Ok end) = LineThere start end old new ⊎ LineLeft start end new
FoundHead start old new (Err Read) = LineUnread start new
FoundHead start old new (Err Memory) = new.reach ≡ Reading
FoundHead start old new (Err (UnsupportedEncoding place)) = ⊥
FoundHead start old new (Err (BomConflict place)) = ⊥

-- the line that is due
abbrev pub FoundDue : Intake → Intake → Result (Option ℕ) AllocError → Type 0
FoundDue old new (Ok (Some end)) = LineThere 0 end old new ⊎ LineLeft 0 end new
FoundDue old new (Ok None) = LineUnread 0 new
FoundDue old new (Err e) = (new.reach ≡ Reading) × NoLfFrom 0 (length new.buffer) new.buffer
