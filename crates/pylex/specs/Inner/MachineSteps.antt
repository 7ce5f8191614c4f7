-- Where a lister stands, and its steps from there.
use Rattle.std.specs.Prelude.{◌≡◌, ◌⊎◌, ℕ, ◌+◌, ◌-◌, ◌<◌, ◌≤◌, List, [], ◌++◌, length, take, Option, OnSome, option_map}
use Rattle.std.specs.Str.{chars}
use Rattle.pysource.specs.Parts.{Parts}
use Rattle.pysource.specs.declared.faults.LineFault.{LineFault}
use Rattle.pylex_listing.specs.declared.entries.Entry.{Entry}
use Rattle.pylex_listing.specs.declared.entries.ListingFault.{ListingFault}
use Rattle.pylex_listing.specs.declared.entries.Step.{Step}
use Rattle.pylex_listing.specs.declared.entries.Step.TheVariants as steps
use Rattle.pylex.specs.declared.peeked.Peeked.{Peeked}
use Rattle.pylex.specs.declared.peeked.Peeked.TheVariants as peeked
use Rattle.pylex.specs.declared.machine.Machine.{Machine}
use Rattle.pylex.specs.declared.line_state.LineState.{LineState}
use Rattle.pylex_lexeme.specs.Chunks.{EndsLine}
use Rattle.pylex.specs.Cursors.{CursorParts}
use Rattle.pylex_lexeme.specs.Chars.{bytes_in}
use Rattle.pylex_listing.specs.Listing.{of_line}
use Rattle.pylex.specs.Listers.{Keeps, NextStep, shown_by}
use Rattle.pylex_listing.specs.Machine.{remaining}
use Rattle.pylex.specs.LineState.{with_levels, Stands, IsAscending, Comes, Peek, NextEntry, IsMeasuring}
use Rattle.pylex_listing.specs.Steps.{IsNoEntry, most_entries}

-- the cursor of a machine
abbrev pub shown_from : Machine → CursorParts
shown_from p = shown_by p.given p.point p.levels.items ((length p.levels.items - p.nested) + p.tail)

-- a lister that stands so in a source, before this rest of its text
abbrev pub Holds : Parts → Machine → List ℕ → Type 0
Holds source p left = Keeps (record { source = source; shown = shown_from p }) p.now left p.levels.items p.nested p.tail

-- the counts of a machine are small, and its levels ascend
pub record HasPlace (p : Machine) : Type 0 where
  pub given : p.given ≤ most_entries
  pub skip : (length p.levels.items - p.nested) + p.tail ≤ length p.levels.items + 2
  pub within : p.nested ≤ length p.levels.items
  pub ascending : IsAscending 0 p.levels.items

-- nothing was changed
abbrev pub IsSame : Machine → Machine → Type 0
IsSame p q = (q ≡ record p { levels = q.levels }) × (q.levels.items ≡ p.levels.items)

-- what is left of a text after a step
abbrev pub left_by : Step → List ℕ → List ℕ → List ℕ
left_by (steps.Entry e) from to = to
left_by steps.End from to = from
left_by (steps.Fault f) from to = from

-- if a step gives an entry, its text stands from one offset on, and ends at another
abbrev pub Ranges : ℕ → ℕ → Step → Type 0
Ranges low high (steps.Entry e) = (low ≤ e.«from») × (e.to ≡ high)
Ranges low high steps.End = Unit {0}
Ranges low high (steps.Fault f) = Unit {0}

-- a fault that was met comes first: where one was, the step is no entry
abbrev pub FaultsFirst : Peeked → Option LineFault → Step → Type 0
FaultsFirst (peeked.Entry e) fault step = Unit {0}
FaultsFirst (peeked.Fault f) fault step = IsNoEntry step
FaultsFirst peeked.Indent fault step = Unit {0}
FaultsFirst peeked.Dedent fault step = Unit {0}
FaultsFirst peeked.Stop fault step = OnSome fault (IsNoEntry step)

-- a step that is no entry comes of a fault or a stop, and changes nothing
abbrev pub StaysAfter : Machine → Peeked → Machine → Step → Type 0
StaysAfter old met new (steps.Entry e) = Unit {0}
StaysAfter old met new steps.End = (new ≡ old) × ((met ≡ peeked.Stop) ⊎ ((f : ListingFault) × (met ≡ peeked.Fault f)))
StaysAfter old met new (steps.Fault g) = (new ≡ old) × ((met ≡ peeked.Stop) ⊎ ((f : ListingFault) × (met ≡ peeked.Fault f)))

-- From a machine to another by a step: in each source in which a lister stood so, before a text in which it finds what was met, that step
-- comes next. A text may continue after what was looked at, if that makes no other end.
pub record Advance (old : Machine) (met : Peeked) (now : LineState) (left : List ℕ) (fault : Option LineFault) (step : Step)
    (new : Machine) : Type 0 where
  pub goes : (source : Parts) (from to : List ℕ) → Holds source old from → Peek (take old.nested old.levels.items) old.now (chars from) met
      now (chars to) → Stands now to
      → (met ≡ peeked.Stop → (levels : List ℕ) → remaining (option_map of_line source.fault) (with_levels now levels) (chars to) ≡ remaining
      (option_map of_line fault) (with_levels now levels) (chars left))
      → NextStep (record { source = source; shown = shown_from old }) step (record { source = source; shown = shown_from new }) × Holds
      source new (left_by step from to)
  pub measuring : (cs ds : List ℕ) → Peek (take old.nested old.levels.items) old.now cs met now ds
      → IsMeasuring old.now → IsMeasuring new.now
  pub ranges : (source : Parts) (from to before rest : List ℕ) → Holds source old from
      → Peek (take old.nested old.levels.items) old.now (chars from) met now (chars to) → chars source.text ≡ before ++ rest
      → (before ≡ []) ⊎ EndsLine before → bytes_in (chars to) ≤ bytes_in rest → bytes_in before ≤ old.now.now.offset → IsMeasuring old.now
      → Ranges (bytes_in before) new.now.now.offset step

-- from a machine to another by an entry that comes next in a text, where none of the end was given
pub record StepsOn (old : Machine) (text : List ℕ) (e : Entry) (new : Machine) (left : List ℕ) : Type 0 where
  pub now : LineState
  pub reaches : NextEntry old.now text e now left
  pub tail : old.tail ≡ 0
  pub went : (fault : Option LineFault) → Advance old (peeked.Entry e) now left fault (steps.Entry e) new

-- a machine has looked on in a text, past what gives nothing
pub record LooksOn (old : Machine) (text : List ℕ) (new : Machine) (left : List ℕ) : Type 0 where
  pub rest : new ≡ record old { now = new.now }
  pub comes : Comes (take old.nested old.levels.items) old.now (chars text) new.now (chars left)
  pub stands : Stands new.now left
  pub stays : 0 < old.tail → (new.now ≡ old.now) × (left ≡ text)
