-- How a lister stands, and what a cursor says of it.
use Rattle.std.specs.Prelude.{◌≡◌, ℕ, ◌-◌, ◌≤◌, nat_le, Bool, true, false, not, ◌&&◌, ◌==◌, List, [], ◌∷◌, length, drop, if◌then◌else◌}
use Rattle.std.specs.Prelude.{Option}
use Rattle.pylex_listing.specs.declared.entries.ListingFault.{ListingFault}
use Rattle.pylex_listing.specs.declared.entries.Step.{Step}
use Rattle.pylex_listing.specs.declared.kind.Kind.TheVariants as kinds
use Rattle.pylex_lexeme.specs.Chars.{bytes_in}
use Rattle.pylex_listing.specs.Listing.{Source, listing, rest, last_line, origin}
use Rattle.pylex.specs.Cursors.{CursorParts, cursor, same_parts}
use Rattle.pylex_listing.specs.Steps.{entries_of, mark}
use Rattle.pylex_listing.specs.Machine.{State, lead_after, remaining}
use Rattle.pylex_listing.specs.declared.point.Point.{Point}
use Rattle.pylex_listing.specs.declared.leading_char.LeadingChar.TheVariants.{Nothing}

-- the longest front of a text of at most n bytes, and what is after it
unfoldable pub front_to : ℕ → List ℕ → List ℕ
front_to n [] = []
front_to n (c ∷ cs) = if nat_le (bytes_in (c ∷ [])) n then c ∷ front_to (n - bytes_in (c ∷ [])) cs else []

abbrev pub back_from : ℕ → List ℕ → List ℕ
back_from n text = drop (length (front_to n text)) text

-- a cursor's parts, the text of its line before the point, the text from the point on, and the fault after it
pub record Standing : Type 0 where
  pub shown : CursorParts
  pub line : List ℕ
  pub left : List ℕ
  pub fault : Option ListingFault

-- where a lister stands that begins at a cursor in a source
unfoldable pub standing_by : Source → CursorParts → Standing
standing_by s c = record { shown = c; line = last_line (front_to c.offset s.text); left = back_from c.offset s.text; fault = s.fault }

-- where it stands after the first k entries of a source
abbrev pub standing : Source → ℕ → Standing
standing s k = standing_by s (cursor s k)

-- the state at a cursor's point: a line is yet to be measured only at its start
unfoldable pub resumed : CursorParts → List ℕ → State
resumed c line =
    let p : Point = record { place = record { row = c.row; column = length line }; offset = c.offset } in
    record {
      now = p;
      line = p;
      depth = c.depth;
      levels = c.levels;
      margin = not c.begun && (length line == 0);
      width = 0;
      logical =
          c.begun;
      joined = false;
      lead = lead_after Nothing line;
    }

-- what a lister still gives
unfoldable pub to_give : Standing → List Step
to_give v =
    if v.shown.given == 0 then mark kinds.Encoding [] origin origin ∷ remaining v.fault (resumed v.shown v.line) v.left
    else drop v.shown.skip (remaining v.fault (resumed v.shown v.line) v.left)

-- the offset at which the line of an offset begins
abbrev pub line_begin : ℕ → List ℕ → ℕ
line_begin n text = bytes_in (front_to n text) - bytes_in (last_line (front_to n text))

-- a source agrees with another from an offset's line on
pub record Agrees (a b : Source) (n : ℕ) : Type 0 where
  pub encoding : a.encoding ≡ b.encoding
  pub fault : a.fault ≡ b.fault
  pub same_length : bytes_in a.text ≡ bytes_in b.text
  pub begins : line_begin n a.text ≡ line_begin n b.text
  pub same : back_from (line_begin n a.text) a.text ≡ back_from (line_begin n b.text) b.text

-- whether a cursor is one of a source: the one after some of its entries
unfoldable pub is_cursor_of : CursorParts → Source → Bool
is_cursor_of c s = nat_le c.given (length (entries_of (listing s))) && same_parts c (cursor s c.given)

abbrev pub IsCursorOf : CursorParts → Source → Type 0
IsCursorOf c s = is_cursor_of c s ≡ true

-- a lister stands in a source after k entries
pub record StandsAt (v : Standing) (s : Source) (k : ℕ) : Type 0 where
  pub within : k ≤ length (entries_of (listing s))
  pub is : v ≡ standing s k

-- what every lister gives: the rest of the listing
abbrev pub Resumes : Type 0
Resumes = (v : Standing) (s : Source) (k : ℕ) → StandsAt v s k → to_give v ≡ rest s k

-- a cursor of one source stands in each source that agrees with it
abbrev pub StandsInAgreeing : Type 0
StandsInAgreeing = (a b : Source) (c : CursorParts) → IsCursorOf c a → Agrees a b c.offset → StandsAt (standing_by b c) a c.given
