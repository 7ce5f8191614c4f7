-- What a run took of its reader, and how its lister stands then.
use Rattle.std.specs.Prelude.{◌≡◌, ℕ, Bool, List, ◌++◌, Option, Some, Ok}
use Rattle.pysource.specs.Bytes.{Seen}
use Rattle.pysource.specs.Parts.{Parts}
use Rattle.pysource.specs.Streams.{Buffered, Reads, stream_of}
use Rattle.pysource.specs.Taking.{ReadsBytes}
use Rattle.pysource.specs.declared.line_reader.Reach.TheVariants as reach
use Rattle.pylex.specs.Cursors.{CursorParts}
use Rattle.pylex_listing.specs.Listing.{in_characters}
use Rattle.pylex.specs.Streamed.{Streamed, StreamsIn, Continues}
use Rattle.pyast_command.specs.Listings.{start_in, output_from, fault_from}
use Rattle.pyast_fault.specs.declared.fault.Fault.{Fault}

-- all that was taken of a reader by lines that stand so now
abbrev pub TookAll : Seen → Seen → Buffered → List ℕ → Type 0
TookAll seen_old seen_new lines all = ReadsBytes seen_old seen_new reach.Reading lines.reach 0 lines.count all

-- a lister that has begun, after a cursor or at the start: what was taken, and that it stands there in each source that this can be the
-- front of
pub record Starts (seen_old seen_new : Seen) (resume : Option CursorParts) (v : Streamed) : Type 0 where
  pub all : List ℕ
  pub took : TookAll seen_old seen_new v.lines all
  pub stands : (more : List ℕ) (broken : Bool) → Continues v.lines more broken
      → (p : Parts) × (stream_of broken (all ++ more) ≡ Ok p) × (start_in resume (in_characters p) ≡ Some v.shown.given) × StreamsIn v p
      v.shown.given more broken

-- From a lister on bytes were taken, and the lines stand so then; and something was done with what is to be written and told of each source
-- in which the lister stood.
pub record Lists (seen_old seen_new : Seen) (old : Streamed) (exact : Bool) (count : Option ℕ) (done : List ℕ → Option Fault
    → Type 0) : Type 0 where
  pub new : Buffered
  pub taken : List ℕ
  pub reads : Reads seen_old seen_new old.lines new taken
  pub follows : (more : List ℕ) (broken : Bool) → Continues new more broken → Continues old.lines (taken ++ more) broken
  pub holds : (p : Parts) (more : List ℕ) (broken : Bool) → Continues new more broken
      → StreamsIn old p old.shown.given (taken ++ more) broken
      → done (output_from exact p count old.shown.given) (fault_from p count old.shown.given)
