-- Literals and f-strings, as the program reads them.
use Rattle.std.specs.Prelude.{◌≡◌, ℕ, ◌≤◌, ◌<◌, List, [], Bool, length, Result, MatchResult}
use Rattle.pytoken.specs.FormattedStrings.{text_points}
use Rattle.pytoken.specs.TerminalOf.{text_part}
use Rattle.pytoken.specs.Terminals as tokens
use Rattle.pytoken.specs.declared.values.terminals.Terminal.{Terminal}
use Rattle.pygrammar.specs.FormattedStrings.{StringPart, Text, Field}
use Rattle.pygrammar.specs.Reader.{Answer, Found, Reads, and_then, field_with, parts_loop}
use Rattle.pyparse_nodes.specs.declared.found.Read.{Read}
use Rattle.pyparse_nodes.specs.declared.found.JoinedValues.{JoinedValues}
use Rattle.pyparse_nodes.specs.declared.boundaries.FormattedPart.{FormattedPart}
use Rattle.pyparse_nodes.specs.declared.boundaries.FormattedPart.TheVariants as part
use Rattle.pyparse_nodes.specs.declared.stop.Stop.{Stop}
use Rattle.pyparse_nodes.specs.declared.stop.Stop.TheVariants as stop
use Rattle.pyparse_nodes.specs.Answers.{Failed}
use Rattle.pyparse_nodes.specs.JoinedStates.{gathered, state_of, step}
use Rattle.pyparse_nodes.specs.Views.{seen}

-- what was read is no higher than the room, or it is
pub record Lower (room : ℕ) (e r : Read) : Type 0 where
  pub same : r ≡ e
  pub low : e.height ≤ room

pub record Higher (room : ℕ) (e : Read) (s : Stop) : Type 0 where
  pub why : s ≡ stop.TooDeep
  pub high : room < e.height

abbrev pub Lowers : ℕ → Read → Result Read Stop → Type 0
Lowers room e z = MatchResult z (λ r. Lower room e r) (λ s. Higher room e s)

-- parts found at a place, and their values
pub record PartsAt (u : Bool) (ts : List Terminal) (least : ℕ) (x : Answer (List StringPart)) (j : JoinedValues) : Type 0 where
  pub ahead : least ≤ j.next
  pub within : j.next ≤ length ts
  pub parts : List StringPart
  pub is : x ≡ Found parts (seen ts j.next)
  pub gives : state_of j ≡ gathered u parts

abbrev pub PartsAnswered : Bool → List Terminal → (least : ℕ) → Answer (List StringPart) → Result JoinedValues Stop → Type 0
PartsAnswered u ts least x z = MatchResult z (λ j. PartsAt u ts least x j) (λ s. Failed s x)

-- one part, from after its first terminal on; and its value after others
abbrev pub part_reads : Reads → Bool → ℕ → FormattedPart → List tokens.Terminal → Answer StringPart
part_reads self u most (part.Text p) r = Found (Text (text_points (text_part p))) r
part_reads self u most (part.Field c) r = and_then (field_with self (λ i. parts_loop self u most [] i) u c r) (λ e s. Found (Field e) s)

pub record AddedAt (u : Bool) (ts : List Terminal) (least : ℕ) (before : JoinedValues) (x : Answer StringPart)
    (j : JoinedValues) : Type 0 where
  pub ahead : least ≤ j.next
  pub within : j.next ≤ length ts
  pub one : StringPart
  pub is : x ≡ Found one (seen ts j.next)
  pub gives : state_of j ≡ step u (state_of before) one

abbrev pub PartAdded : Bool → List Terminal → (least : ℕ) → JoinedValues → Answer StringPart → Result JoinedValues Stop → Type 0
PartAdded u ts least before x z = MatchResult z (λ j. AddedAt u ts least before x j) (λ s. Failed s x)
