-- What is gathered of the token that begins a line.
use Rattle.std.specs.Prelude.{◌≡◌, ℕ, ◌<◌, ◌≤◌, true, List, length, Option}
use Rattle.pysource.specs.declared.places.Place.{Place}
use Rattle.pysource.specs.Parts.{Parts}
use Rattle.pylex_lexeme.specs.declared.kinds.Exact.{Exact}
use Rattle.pylex_listing.specs.declared.kind.Kind.{Kind}
use Rattle.pylex_listing.specs.declared.entries.Entry.{Entry}
use Rattle.pylex.specs.declared.spots.Spot.{Spot}
use Rattle.pylex.specs.Listers.{Listed}
use Rattle.pylex.specs.Spots.{at_spot}
use Rattle.pyparse_marks.specs.Spans.{Span}
use Rattle.pyparse_tokens.specs.declared.line_gather.LineGather.{LineGather}
use Rattle.pyparse_tokens.specs.Inner.LineGathering.{TakesEntry, StandsAt}
use Rattle.pyparse_tokens.specs.Inner.Marking.{GoesOn}
use Rattle.pyparse_tokens.specs.Inner.Walking.{IsEntry, Reads}

-- an entry is taken that is such a token and starts at a place, of whatever text it is
abbrev pub TakesStart : Kind → Option Exact → List ℕ → Place → LineGather → LineGather → Type 0
TakesStart k x own start old new = (text : List ℕ) (e : Entry) → IsEntry text k x own e → e.start ≡ start → TakesEntry text e old new

-- from where a lister stands to a spot within a line, of which tokens are kept then
pub record BeginsAt (p : Parts) (l : Listed) (old : LineGather) (was : Option (List Span)) (s : Spot) (new : LineGather)
    (now : Option (List Span)) : Type 0 where
  pub at : StandsAt p (at_spot p s l.shown.levels) new
  pub within : s.begun ≡ true
  pub some : 0 < s.given
  pub given : l.shown.given ≤ s.given
  pub begun : new.pass.begun ≡ true
  pub kept : 0 < length new.line.terminals.items
  pub reads : (first : Listed) → Reads p first l old → Reads p first (at_spot p s l.shown.levels) new
  pub marks : GoesOn p l old was (at_spot p s l.shown.levels) new now
