-- A lister that reads its source line by line, as its code holds it: how it looks ahead, and what a step does.
use Rattle.std.specs.Prelude.{◌≡◌, ◌⊎◌, ◌||◌, ◌==◌, ℕ, ◌+◌, ◌≤◌, Bool, true, List, [], ◌++◌, take, length, drop, string_bytes, false, ◌<◌}
use Rattle.std.specs.Prelude.{Option, Some, None, Result, Ok}
use Rattle.std.specs.declared.alloc.AllocError.{AllocError}
use Rattle.std.specs.Str.{chars, IsUtf8}
use Rattle.pysource.specs.Bytes.{Seen}
use Rattle.pysource.specs.Parts.{Parts}
use Rattle.pysource.specs.Streams.{Buffered, comes, unread, Reads}
use Rattle.pylex.specs.declared.line_lister.ResumeFault.{ResumeFault}
use Rattle.pylex.specs.declared.line_lister.ResumeFault.TheVariants as resumes
use Rattle.pysource.specs.Limits.{source_limit}
use Rattle.pysource.specs.declared.faults.LineFault.{LineFault}
use Rattle.pysource.specs.declared.line_reader.LineRead.{LineRead}
use Rattle.pysource.specs.declared.line_reader.LineRead.TheVariants as lines
use Rattle.pylex.specs.declared.peeked.Peeked.{Peeked}
use Rattle.pylex.specs.declared.peeked.Peeked.TheVariants as met
use Rattle.pylex.specs.declared.line_lister.Found.{Found}
use Rattle.pylex_lexeme.specs.Lexemes.{is_open_string}
use Rattle.pylex.specs.LineState.{Peek, HasRoom, Stands, StopAhead}
use Rattle.pysource.specs.declared.line_reader.StreamFault.TheVariants as faults
use Rattle.pylex_listing.specs.declared.entries.Entry.{Entry}
use Rattle.pylex_listing.specs.declared.entries.Step.{Step}
use Rattle.pylex_listing.specs.declared.entries.Step.TheVariants as steps
use Rattle.pylex.specs.declared.held_lines.HeldLines.{HeldLines}
use Rattle.pylex.specs.declared.machine.Machine.{Machine}
use Rattle.pylex.specs.Inner.MachineSteps.{shown_from}
use Rattle.pylex.specs.Inner.Chunked.{IsHeldLines}
use Rattle.pylex.specs.Held.{Ahead, IsJoined, LexedTo}
use Rattle.pylex.specs.Streamed.{is_unread, Streamed, AwaitsLine, Continues, StreamsIn, Next}

-- a lister by its machine, the lines that it holds, and the entry that it gave last
abbrev pub streamed : Machine → HeldLines → Option Entry → Streamed
streamed p c last = record {
  lines = c.lines;
  shown = shown_from p;
  base = c.base;
  held = string_bytes c.text;
  left = drop c.at (string_bytes c.text);
  now = p.now;
  levels = p.levels.items;
  nested = p.nested;
  tail = p.tail;
  last = last;
}

-- a lister that stands in a source whatever follows
pub record IsStreaming (p : Machine) (c : HeldLines) (last : Option Entry) : Type 0 where
  pub chunk : IsHeldLines c
  pub text : IsUtf8 (string_bytes c.text)
  pub within : c.lines.count ≤ source_limit
  pub left : IsUtf8 (drop c.at (string_bytes c.text))
  pub lexed : LexedTo (chars (drop c.at (string_bytes c.text))) (chars (string_bytes c.text))
  pub joined : IsJoined [] (string_bytes c.text)
  pub fresh : p.given ≡ 0 → string_bytes c.text ≡ []
  pub stands : (more : List ℕ) (broken : Bool) → Continues c.lines more broken
      → (s : Parts) × StreamsIn (streamed p c last) s p.given more broken

-- nothing is left, or a literal that is open
abbrev pub lacks : List ℕ → Bool
lacks left = (length left == 0) || is_open_string (chars left)

-- a stop is one of the source: no literal is open there, or nothing follows and the fault is the source's
abbrev pub Stops : Peeked → List ℕ → List ℕ → Option LineFault → Option LineFault → Type 0
Stops m left coming fault own = m ≡ met.Stop → (lacks left ≡ false) ⊎ ((coming ≡ []) × (own ≡ fault))

-- what is met in the lines held, and where
pub record Looks (p : Machine) (c : HeldLines) (f : Found) : Type 0 where
  pub at : f.at ≤ length (string_bytes c.text)
  pub left : IsUtf8 (drop f.at (string_bytes c.text))
  pub finds : Peek (take p.nested p.levels.items) p.now (chars (drop c.at (string_bytes c.text))) f.peeked f.now
      (chars (drop f.at (string_bytes c.text)))
  pub stands : Stands f.now (drop f.at (string_bytes c.text))
  pub room : (n : ℕ) → HasRoom p.now (length (drop c.at (string_bytes c.text)) + n)
      → HasRoom f.now (length (drop f.at (string_bytes c.text)) + n)
  pub tail : 0 < p.tail → (f.peeked ≡ met.Stop) × (f.now ≡ p.now) × (drop f.at (string_bytes c.text) ≡ drop c.at (string_bytes c.text))

-- that is met in the source
pub record PeekedIn (p : Machine) (c : HeldLines) (f : Found) : Type 0 where
  pub looks : Looks p c f
  pub stops : (s : Parts) (k : ℕ) (more : List ℕ) (broken : Bool) → Continues c.lines more broken
      → StreamsIn (streamed p c None) s k more broken → Stops f.peeked (drop f.at (string_bytes c.text))
      (comes c.lines more broken).text f.fault s.fault
  pub ended : f.peeked ≡ met.Stop → AwaitsLine (streamed p c None) → ⊥

-- A search for what is met next: the lister stands where it stood, and holds other lines.
pub record Searches (seen_old seen_new : Seen) (old new : Machine) (c d : HeldLines) : Type 0 where
  pub taken : List ℕ
  pub reads : Reads seen_old seen_new c.lines d.lines taken
  pub follows : (more : List ℕ) (broken : Bool) → Continues d.lines more broken → Continues c.lines (taken ++ more) broken
  pub stands : (s : Parts) (k : ℕ) (more : List ℕ) (broken : Bool) → Continues d.lines more broken
      → StreamsIn (streamed old c None) s k (taken ++ more) broken → StreamsIn (streamed new d None) s k more broken
  pub machine : new ≡ record old { now = new.now }
  pub streaming : IsStreaming new d None

-- no more was read ahead than one read gives, or a fault was met in place of the next line
abbrev pub LooksAhead : Found → Buffered → Buffered → Type 0
LooksAhead f old new = ((f.peeked ≡ met.Stop) × (fault : LineFault) × (f.fault ≡ Some fault)) ⊎ Ahead old new

-- a literal is open at the end of the lines held, and no lexeme and no layout come before it
pub record IsWaiting (p : Machine) (c : HeldLines) : Type 0 where
  pub stop : StopAhead p.now (chars (drop c.at (string_bytes c.text)))
  pub unended : is_open_string (chars (drop c.at (string_bytes c.text))) ≡ true

-- the fault of an answer that is no line
abbrev pub Lacks : LineRead → ℕ → Option LineFault → Type 0
Lacks lines.Text row fault = Unit {0}
Lacks lines.End row fault = fault ≡ None
Lacks (lines.Fault f) row fault = fault ≡ Some f
Lacks lines.Read row fault = fault ≡ Some (unread row)

-- Past what a search found: that is a step, after whatever was searched.
abbrev pub Passes : Machine → HeldLines → Found → Streamed → Result Step AllocError → Type 0
Passes q d f new result = (seen_old seen_new : Seen) (p : Machine) (c : HeldLines) (last : Option Entry)
    → Searches seen_old seen_new p q c d → 0 < p.given → LooksAhead f c.lines d.lines
    → Next seen_old seen_new (streamed p c last) new result

-- an entry is passed by, whatever was found
pub record PassesOn (q : Machine) (d : HeldLines) (e : Entry) (r : Machine) (new : HeldLines) (last : Option Entry) : Type 0 where
  pub found : Found
  pub streaming : IsStreaming r new last
  pub passes : Passes q d found (streamed r new last) (Ok (steps.Entry e))

-- why a lister that met this step too early can't resume
pub record IsEndedBy (step : Step) (fault : ResumeFault) : Type 0 where
  pub read : is_unread step ≡ true → fault ≡ resumes.Stream faults.Read
  pub other : is_unread step ≡ false → fault ≡ resumes.AnotherSource
