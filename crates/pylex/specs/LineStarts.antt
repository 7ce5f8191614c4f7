-- The lexeme that a logical line begins with, where a lister has no other entry to give before it.
use Rattle.std.specs.Prelude.{◌≡◌, ℕ, ◌+◌, ◌≤◌, Bool, true, false, not, List, length, slice_range}
use Rattle.std.specs.Str.{chars, encode_utf8_all}
use Rattle.pysource.specs.declared.places.Place.{Place}
use Rattle.pylex_lexeme.specs.declared.lexeme.Class.{Class}
use Rattle.pylex_lexeme.specs.declared.lexeme.Class.TheVariants.{Name, Number, String, Operator}
use Rattle.pylex_lexeme.specs.Operators.{is_closer}
use Rattle.pylex_listing.specs.declared.entries.Entry.{Entry}
use Rattle.pylex_listing.specs.declared.entries.Step.TheVariants as steps
use Rattle.pylex.specs.declared.spots.Spot.{Spot}
use Rattle.pylex.specs.Listers.{Listed, NextStep}
use Rattle.pylex.specs.Spots.{at_spot}
use Rattle.pylex_listing.specs.EntryKinds.{kind_of, operator_of}
use Rattle.pylex_listing.specs.Steps.{most_entries}

-- a token that can begin a line: any but a closing bracket
abbrev pub begins_line : Class → Bool
begins_line k = elim k [ Name ↦ true | Number ↦ true | String ↦ true | Operator o ↦ not (is_closer o) | _ ↦ false ]

-- Where a lister stands the entry of such a lexeme comes next: its class, its text, given as its bytes, where it starts, and the spot after
-- it, where the lister would stand then.
pub record BeginsLine (l : Listed) (k : Class) (own : List ℕ) (place : Place) (s : Spot) : Type 0 where
  pub token : begins_line k ≡ true
  pub entry : Entry
  pub step : NextStep l (steps.Entry entry) (at_spot l.source s l.shown.levels)
  pub kind : entry.kind ≡ kind_of k true
  pub exact : entry.exact ≡ operator_of k
  pub start : entry.start ≡ place
  pub text : chars (slice_range (encode_utf8_all (chars l.source.text)) entry.«from» entry.to) ≡ chars own
  pub size : entry.«from» + length own ≡ s.offset
  pub to : entry.to ≡ s.offset
  pub given : s.given ≡ l.shown.given + 1
  pub few : s.given ≤ most_entries
  pub begun : s.begun ≡ true
