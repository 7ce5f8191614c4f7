-- The steps of a listing: entries, and then its end or the fault that ends it. How a piece of text, an empty mark and a fault are steps.
use Rattle.std.specs.Prelude.{◌≡◌, ℕ, ◌+◌, ◌*◌, List, [], ◌∷◌, Option, Some, None}
use Rattle.pysource.specs.Limits.{source_limit}
use Rattle.pysource.specs.Places.{place_after}
use Rattle.pysource.specs.declared.places.Place.{Place}
use Rattle.pylex_lexeme.specs.Chars.{bytes_in}
use Rattle.pylex_lexeme.specs.declared.kinds.Exact.{Exact}
use Rattle.pylex_listing.specs.declared.entries.Entry.{Entry}
use Rattle.pylex_listing.specs.declared.entries.ListingFault.{ListingFault}
use Rattle.pylex_listing.specs.declared.entries.ListingError.{ListingError}
use Rattle.pylex_listing.specs.declared.kind.Kind.{Kind}
use Rattle.pylex_listing.specs.declared.kind.Kind.TheVariants as kinds
use Rattle.pylex_listing.specs.declared.entries.Step.{Step}
use Rattle.pylex_listing.specs.declared.entries.Step.TheVariants as steps

-- the entry of a piece of the text, by the text before it and its end
abbrev pub piece : Kind → Option Exact → List ℕ → List ℕ → Place → Step
piece k e earlier t end = steps.Entry (record {
  kind = k;
  exact = e;
  start = place_after earlier;
  «end» = end;
  «from» = bytes_in earlier;
  to = bytes_in earlier + bytes_in t;
})

-- an entry of empty text that stands after a text, with its places
abbrev pub mark : Kind → List ℕ → Place → Place → Step
mark k earlier start end = steps.Entry (record {
  kind = k;
  exact = None;
  start = start;
  «end» = end;
  «from» = bytes_in earlier;
  to = bytes_in earlier;
})

abbrev pub fault_at : ListingError → Place → Step
fault_at c p = steps.Fault (record { code = c; place = p })

-- the entries among them
abbrev pub entries_of : List Step → List Entry
entries_of [] = []
entries_of (steps.Entry e ∷ ss) = e ∷ entries_of ss
entries_of (steps.End ∷ ss) = entries_of ss
entries_of (steps.Fault f ∷ ss) = entries_of ss

-- no listing has more entries: three for each byte that a source can have, and four
abbrev pub most_entries : ℕ
most_entries = 3 * source_limit + 4

-- the fault that ends them, if one does
abbrev pub fault_of : List Step → Option ListingFault
fault_of [] = None
fault_of (steps.Entry e ∷ ss) = fault_of ss
fault_of (steps.End ∷ ss) = None
fault_of (steps.Fault f ∷ ss) = Some f

-- what a lister answers that has these steps ahead
abbrev pub first_step : List Step → Step
first_step [] = steps.End
first_step (s ∷ ss) = s

-- the steps that are ahead then: an end and a fault stay
abbrev pub rest_of : List Step → List Step
rest_of [] = []
rest_of (steps.Entry e ∷ ss) = ss
rest_of (steps.End ∷ ss) = steps.End ∷ ss
rest_of (steps.Fault f ∷ ss) = steps.Fault f ∷ ss

-- the step gives an INDENT
abbrev pub IsIndent : Step → Type 0
IsIndent (steps.Entry e) = elim e.kind [ kinds.Indent ↦ Unit {0} | _ ↦ ⊥ ]
IsIndent steps.End = ⊥
IsIndent (steps.Fault f) = ⊥

-- the entries that a step gives
abbrev pub entries_in : Step → ℕ
entries_in (steps.Entry e) = 1
entries_in steps.End = 0
entries_in (steps.Fault f) = 0

-- if the step gives an entry, that has no text
abbrev pub HasNoText : Step → Type 0
HasNoText (steps.Entry e) = e.«from» ≡ e.to
HasNoText steps.End = Unit {0}
HasNoText (steps.Fault f) = Unit {0}

-- if the step gives an entry, that is of empty text at an offset
abbrev pub IsAt : ℕ → Step → Type 0
IsAt o (steps.Entry e) = (e.«from» ≡ o) × (e.to ≡ o)
IsAt o steps.End = Unit {0}
IsAt o (steps.Fault f) = Unit {0}

-- the step gives no entry: it ends a listing
abbrev pub IsNoEntry : Step → Type 0
IsNoEntry (steps.Entry e) = ⊥
IsNoEntry steps.End = Unit {0}
IsNoEntry (steps.Fault f) = Unit {0}
