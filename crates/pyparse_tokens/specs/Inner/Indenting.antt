-- What one pass over the lines of a source keeps of their indentation.
use Rattle.std.specs.Prelude.{◌≡◌, ℕ, ◌+◌, ◌≤◌, replicate, Bool, true, false, not, ◌&&◌, nat_lt, nat_le, List, [], ◌∷◌, ◌++◌, length, take}
use Rattle.std.specs.Prelude.{drop, filter, None}
use Rattle.std.specs.List.{list_any, list_all}
use Rattle.std.specs.Str.{encode_utf8_all}
use Rattle.pysource.specs.declared.places.Place.{Place}
use Rattle.pysource.specs.Places.{place_at}
use Rattle.pylex_lexeme.specs.Chars.{is_blank_char}
use Rattle.pylex_lexeme.specs.Cuts.{begins_significant}
use Rattle.pylex_listing.specs.declared.margins.Widths.{Widths}
use Rattle.pylex_listing.specs.Margins.{blanks_of}
use Rattle.pytoken.specs.Inner.Following.{following}
use Rattle.pytoken.specs.Indentation.{Margin, following_offset, are_alike}
use Rattle.pytoken.specs.Refusals.{first_mixed}
use Rattle.pyparse_tokens.specs.declared.indents.Indents.{Indents}

-- the line that begins at an offset is a logical one
abbrev pub is_logical_at : List ℕ → ℕ → Bool
is_logical_at text o = begins_significant (drop (length (blanks_of (following_offset text o))) (following_offset text o))

-- the place of the first character that isn't a blank, in the line that begins at an offset
abbrev pub start_at : List ℕ → ℕ → Place
start_at text o = place_at (encode_utf8_all text) (o + length (blanks_of (following_offset text o)))

-- so many spaces stand at the front of these bytes
pub record AreSpaces (bs : List ℕ) (count : ℕ) : Type 0 where
  pub within : count ≤ length bs
  pub spaces : take count bs ≡ replicate count 32

-- a blank stands at the front of a text
abbrev pub begins_blank : List ℕ → Bool
begins_blank [] = false
begins_blank (c ∷ cs) = is_blank_char c

-- a line is less than another, whichever way tabs count
abbrev pub is_less : Widths → Widths → Bool
is_less v w = nat_lt v.eight w.eight && nat_lt v.one w.one

-- each line is less than all after it
abbrev pub are_rising : List Widths → Bool
are_rising [] = true
are_rising (v ∷ ws) = list_all (λ w. is_less v w) ws && are_rising ws

-- a line stands in another order to some of these
abbrev pub clashes : List Widths → Widths → Bool
clashes standing w = list_any (λ v. not (are_alike v w)) standing

-- those that are narrower than a line
abbrev pub narrower : List Widths → Widths → List Widths
narrower standing w = filter (λ v. nat_lt v.eight w.eight) standing

-- those that aren't narrower than a line were dropped, unless it is mixed: stands in another order to some of them all
pub record Drops (old new : List Widths) (w : Widths) (mixed : Bool) : Type 0 where
  pub clash : mixed ≡ clashes old w
  pub kept : mixed ≡ false → new ≡ narrower old w

-- the lines from which on no line has a smaller width, after one line more
abbrev pub standing_past : List Widths → Widths → List Widths
standing_past standing w = filter (λ v. nat_le v.eight w.eight) standing ++ w ∷ []

-- the lines from which on no line has a smaller width, among some that stand last first
abbrev pub standing_of : List Margin → List Widths
standing_of [] = []
standing_of (m ∷ earlier) = standing_past (standing_of earlier) m.widths

-- the same widths are among these as among others
abbrev pub HoldSame : List Widths → List Widths → Type 0
HoldSame vs ws = (test : Widths → Bool) → list_any test vs ≡ list_any test ws

-- what stands after lines of which none is mixed: the widths from which on none is smaller, each once
pub record Stands (earlier : List Margin) (standing : List Widths) : Type 0 where
  pub rising : are_rising standing ≡ true
  pub same : HoldSame standing (standing_of earlier)

-- what is kept is what some lines say
pub record Measured (ms : List Margin) (i : Indents) : Type 0 where
  pub mixed : i.mixed ≡ first_mixed [] ms
  pub standing : i.mixed ≡ None → Stands (following [] ms) i.standing.items

-- what was kept of some lines is kept of them and more
abbrev pub Measures : List Margin → Indents → Indents → Type 0
Measures more old new = (ms : List Margin) → Measured ms old → Measured (ms ++ more) new
