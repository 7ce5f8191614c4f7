-- What a run of the program is, whatever its reader and its writers do.
use Rattle.std.specs.Prelude.{◌≡◌, ◌≢◌, ◌⊎◌, ◌≤◌, ℕ, ◌+◌, ◌<◌, Bool, true, false, List, [], ◌++◌, length, Option, Some, None, IfSome, if◌then◌else◌}
use Rattle.std.specs.Prelude.{Result, Ok, Err}
use Rattle.std.specs.Io.KnownBytes.{Appends, Consumes, IsAtEnd}
use Rattle.pysource.specs.Bytes.{Seen, Sent, TakesFront, GivesTooMany}
use Rattle.pytree_node.specs.Trees.{Module}
use Rattle.pytree_node.specs.declared.profiles.Profile.{Profile}
use Rattle.pyast_fault.specs.Faults.{status_of, fault_line, file_line, rows_of, Tells}
use Rattle.pyast_fault.specs.declared.fault.RunFaultCode.TheVariants.{Read, Write, Memory, CursorOfAnotherSource}
use Rattle.pyast_fault.specs.declared.fault.Fault.{Fault}
use Rattle.pyast_fault.specs.declared.fault.Fault.TheVariants.{InSource, Plain}
use Rattle.pyast_words.specs.Words.{name_of}
use Rattle.pyast_words.specs.declared.command.Command.{Command}
use Rattle.pyast_words.specs.declared.command.Command.TheVariants.{Tokens, Dump, Unparse, Check}
use Rattle.pyast_command.specs.Dumps.{Dumps}
use Rattle.pyast_command.specs.Listings.{output_of, fault_in}
use Rattle.pyast_command.specs.Modules.{IsModule, IsRefused}
use Rattle.pyast_command.specs.Unparses.{Unparses}

-- What a writer took, from old to new, where a run with this whole output and this fault of the source ended by a fault
-- or by none: all of the output where it ended by what the source says (a cursor of another one and a failed read included), and else a
-- front.
abbrev pub WritesFor : List ℕ → Option Fault → Option (List ℕ) → Option (List ℕ) → Option Fault → Type 0
WritesFor output told old new None = (told ≡ None) × Appends old new output
WritesFor output told old new (Some (InSource code place)) = (told ≡ Some (InSource code place)) × Appends old new output
WritesFor output told old new (Some (Plain code)) = elim code [
  | Read ↦ (told ≡ Some (Plain Read)) × Appends old new output
  | Write ↦ TakesFront old new output
  | Memory ↦ TakesFront old new output
  | CursorOfAnotherSource ↦ (told ≡ Some (Plain CursorOfAnotherSource)) × Appends old new output
  | _ ↦ ⊥
]

-- the writer took a front of the output, of which this much is held and the rest left
abbrev pub TakesAllBut : Option (List ℕ) → Option (List ℕ) → List ℕ → List ℕ → List ℕ → Type 0
TakesAllBut old new output held left = (written : List ℕ) × (output ≡ (written ++ held) ++ left) × Appends old new written

-- as WritesFor where a cursor was found, but that the last of what is to be written is still held, unless a write failed
abbrev pub HoldsFor : List ℕ → Option Fault → Option (List ℕ) → Option (List ℕ) → List ℕ → Option Fault → Type 0
HoldsFor output told old new held None = (told ≡ None) × TakesAllBut old new output held []
HoldsFor output told old new held (Some (InSource code place)) = (told ≡ Some (InSource code place)) × TakesAllBut old new output held []
HoldsFor output told old new held (Some (Plain code)) = elim code [
  | Memory ↦ (left : List ℕ) × TakesAllBut old new output held left
  | Read ↦ (told ≡ Some (Plain Read)) × TakesAllBut old new output held []
  | Write ↦ TakesFront old new output
  | _ ↦ ⊥
]

-- the outcome of a call as the fault that ended it, if one did
abbrev pub ended_by : {A : Type 0} → Result A Fault → Option Fault
ended_by (Ok a) = None
ended_by (Err fault) = Some fault

-- a read failed after these bytes
pub record FailsAfter (seen_old seen_new : Seen) (input : List ℕ) : Type 0 where
  pub front : Consumes seen_old.to_come seen_new.to_come input
  pub failed : seen_new.failures ≡ seen_old.failures + 1

-- these are as many bytes as a source may have, and the reader gave more, or has more to give
pub record PassesLimit (seen_old seen_new : Seen) (limit : ℕ) (input : List ℕ) : Type 0 where
  pub past : List ℕ
  pub some : 0 < length past
  pub full : length input ≡ limit
  pub front : Consumes seen_old.to_come seen_new.to_come (input ++ past) ⊎ (seen_old.to_come ≡ Some (input ++ past))
  pub unfailed : seen_new.failures ≡ seen_old.failures

-- A run whose output and fault are known by what it reads (bytes, after which a read failed or not) did so with what its reader gives:
-- the bytes up to the end, or those before a failed read or before the one that passes the limit.
-- A failed read ends a run only where a read failed, or the reader gave more than a source may have.
pub record Performs (output : Bool → List ℕ → List ℕ) (told : Bool → List ℕ → Option Fault) (seen_old seen_new : Seen)
    (old new : Option (List ℕ)) (limit : ℕ) (ended : Option Fault) : Type 0 where
  pub input : List ℕ
  pub broken : Bool
  pub within : length input ≤ limit
  pub whole : broken ≡ false → IfSome seen_old.to_come (λ known. known ≡ input) × (seen_new.failures ≡ seen_old.failures)
  pub cut : broken ≡ true → FailsAfter seen_old seen_new input ⊎ PassesLimit seen_old seen_new limit input
  pub read : ended ≡ Some (Plain Read) → (seen_new.failures ≡ seen_old.failures + 1) ⊎ GivesTooMany seen_old.to_come seen_new.to_come limit
  pub writes : WritesFor (output broken input) (told broken input) old new ended

-- all the bytes of a reader were read, to its end: no read failed, and they are no more than a source may have
pub record ReadsAll (seen_old seen_new : Seen) (limit : ℕ) (input : List ℕ) : Type 0 where
  pub all : Consumes seen_old.to_come seen_new.to_come input
  pub ended : IsAtEnd seen_new.to_come
  pub within : length input ≤ limit
  pub unfailed : seen_new.failures ≡ seen_old.failures

-- a read failed, or the reader gave more than a source may have
abbrev pub ReadsNotAll : Seen → Seen → ℕ → Type 0
ReadsNotAll seen_old seen_new limit = (seen_new.failures ≢ seen_old.failures) ⊎ GivesTooMany seen_old.to_come seen_new.to_come limit

-- a front was written of the output of a source that was read whole and is accepted
abbrev pub WritesFront : (List ℕ → List ℕ → Option Fault → Type 0) → Seen → Seen → Option (List ℕ) → Option (List ℕ) → ℕ → Type 0
WritesFront does seen_old seen_new old new limit =
    (input output : List ℕ) × ReadsAll seen_old seen_new limit input × does input output None × TakesFront old new output

-- how an output is made: whole before any of it is written, or piece by piece as it is written
pub data Making : Type 0 where
  whole : Making
  in_pieces : Making

-- A run that reads its source whole first ended by a fault or by none; its output and the fault that it tells are known by the bytes.
-- Nothing was written where a read failed or the source is at fault, and a front of the output where a write failed. Where memory was
-- wanting nothing was written, or of an output that is made in pieces a front.
abbrev pub PerformsWhole : Making → (List ℕ → List ℕ → Option Fault → Type 0) → Seen → Seen → Option (List ℕ) → Option (List ℕ)
    → ℕ → Option Fault → Type 0
PerformsWhole making does seen_old seen_new old new limit None =
    (input output : List ℕ) × ReadsAll seen_old seen_new limit input × does input output None × Appends old new output
PerformsWhole making does seen_old seen_new old new limit (Some (InSource code place)) =
    (input : List ℕ) × ReadsAll seen_old seen_new limit input × does input [] (Some (InSource code place)) × Appends old new []
PerformsWhole making does seen_old seen_new old new limit (Some (Plain code)) = elim code [
  | Read ↦ ReadsNotAll seen_old seen_new limit × Appends old new []
  | Write ↦ WritesFront does seen_old seen_new old new limit
  | Memory ↦ (seen_new.failures ≡ seen_old.failures) × elim making [
    | whole ↦ Appends old new []
    | in_pieces ↦ Appends old new [] ⊎ WritesFront does seen_old seen_new old new limit
  ]
  | _ ↦ ⊥
]

-- the bytes of a reader were read to its end, and are refused as a source for this fault
pub record RefusesRead (profile : Profile) (seen_old seen_new : Seen) (limit : ℕ) (input : List ℕ) (fault : Fault) : Type 0 where
  pub all : ReadsAll seen_old seen_new limit input
  pub refused : IsRefused profile input fault

-- A source was judged, which is read whole: its bytes are a module; or they are refused for the fault that ended this, a read failed, or
-- memory was wanting.
abbrev pub Judges : Profile → Seen → Seen → ℕ → Option Fault → Type 0
Judges profile seen_old seen_new limit None =
    (input : List ℕ) × (m : Module) × ReadsAll seen_old seen_new limit input × IsModule profile input m
Judges profile seen_old seen_new limit (Some (InSource code place)) =
    (input : List ℕ) × RefusesRead profile seen_old seen_new limit input (InSource code place)
Judges profile seen_old seen_new limit (Some (Plain code)) = elim code [
  | Read ↦ ReadsNotAll seen_old seen_new limit
  | Memory ↦ seen_new.failures ≡ seen_old.failures
  | _ ↦ ⊥
]

-- What a command does with what its reader gives: `tokens` reads it line by line, the others whole. The text of a dump is made in pieces;
-- `check` writes nothing.
abbrev pub Does : Command → Seen → Seen → Option (List ℕ) → Option (List ℕ) → ℕ → Option Fault → Type 0
Does (Tokens asked) = Performs (output_of asked) (fault_in asked)
Does (Dump asked) = PerformsWhole in_pieces (Dumps asked.style asked.attributes)
Does (Unparse asked) = PerformsWhole whole (Unparses asked.profile)
Does (Check asked) = λ seen_old seen_new old new limit ended. Judges asked.profile seen_old seen_new limit ended × Appends old new []

-- whether a command shows the row of a fault
abbrev pub shows : Command → Bool
shows (Tokens asked) = false
shows (Dump asked) = asked.show
shows (Unparse asked) = asked.show
shows (Check asked) = asked.show

-- the profile by which a command reads a source of which it shows the row of a fault
abbrev pub shown_in : Command → Option Profile
shown_in (Tokens asked) = None
shown_in (Dump asked) = if asked.show then Some asked.style.profile else None
shown_in (Unparse asked) = if asked.show then Some asked.profile else None
shown_in (Check asked) = if asked.show then Some asked.profile else None

-- the line of a fault: that of `check` names the file that can't be read
abbrev pub line_in : Command → List ℕ → Fault → List ℕ
line_in (Tokens asked) = fault_line
line_in (Dump asked) = fault_line
line_in (Unparse asked) = fault_line
line_in (Check asked) = file_line

-- after the line of a fault of the source its row, in the bytes that were read, where rows are shown
abbrev pub AddsRow : Option Profile → Seen → Seen → ℕ → Fault → List ℕ → List ℕ → Type 0
AddsRow None seen_old seen_new limit fault line lines = lines ≡ line
AddsRow (Some profile) seen_old seen_new limit fault line lines =
    (input : List ℕ) × RefusesRead profile seen_old seen_new limit input fault × (lines ≡ line ++ rows_of (Some input) fault)

-- the lines that are told of what ended a run, none where it ended well
abbrev pub IsTold : Option Profile → (Fault → List ℕ) → Seen → Seen → ℕ → Option Fault → List ℕ → Type 0
IsTold shown line_of seen_old seen_new limit None lines = lines ≡ []
IsTold shown line_of seen_old seen_new limit (Some (InSource code place)) lines =
    AddsRow shown seen_old seen_new limit (InSource code place) (line_of (InSource code place)) lines
IsTold shown line_of seen_old seen_new limit (Some (Plain code)) lines = lines ≡ line_of (Plain code)

-- a run of a command that ended by this fault or by none: its status, what it wrote and told, and when a read or a write is blamed
pub record IsRun (command : Command) (seen_old seen_new : Seen) (sent_old sent_new told_old told_new : Sent)
    (limit answer : ℕ) (ended : Option Fault) : Type 0 where
  pub status : answer ≡ status_of ended
  pub output : Does command seen_old seen_new sent_old.taken sent_new.taken limit ended
  pub told : (lines : List ℕ) × IsTold (shown_in command) (line_in command (name_of command)) seen_old seen_new limit ended lines
      × Tells told_old told_new lines
  pub write_failed : ended ≡ Some (Plain Write) → sent_new.failures ≡ sent_old.failures + 1
  pub write_told : ended ≢ Some (Plain Write) → sent_new.failures ≡ sent_old.failures
