-- Lines whose indentation depends on how wide a tab is (reference 2.1.8): tabs and spaces are mixed in a way that makes the meaning depend
-- on
-- the worth of a tab in spaces.
use Rattle.std.specs.Prelude.{ℕ, ◌+◌, Bool, true, false, not, ◌&&◌, ◌||◌, ◌==◌, nat_lt, nat_le, List, [], ◌∷◌, ◌++◌, length, drop}
use Rattle.std.specs.Prelude.{if◌then◌else◌}
use Rattle.std.specs.List.{list_all}
use Rattle.std.specs.Str.{chars, encode_utf8_all}
use Rattle.pysource.specs.declared.places.Place.{Place}
use Rattle.pysource.specs.Places.{place_at}
use Rattle.pylex_lexeme.specs.Cuts.{begins_significant}
use Rattle.pylex_listing.specs.declared.margins.Widths.{Widths}
use Rattle.pylex_listing.specs.declared.kind.Kind.TheVariants as kinds
use Rattle.pylex_listing.specs.declared.entries.Entry.{Entry}
use Rattle.pylex_listing.specs.Margins.{blanks_of, widths_of}
use Rattle.pytoken.specs.Brackets.{open_brackets}

-- what a logical line begins with: the widths of its blanks, and the place of its first character that isn't a blank
pub record Margin : Type 0 where
  pub widths : Widths
  pub start : Place

-- the text after an offset
abbrev pub following_offset : List ℕ → ℕ → List ℕ
following_offset text o = chars (drop o (encode_utf8_all text))

-- The margin of the line that begins at an offset, if it is a logical line: not one that holds at most blanks and a comment (2.1.7).
abbrev pub margin_at : List ℕ → ℕ → List Margin
margin_at text o =
    let line = following_offset text o in
    let indent = length (blanks_of line) in
    if begins_significant (drop indent line) then record {
      widths = widths_of line;
      start =
          place_at (encode_utf8_all text) (o + indent);
    } ∷ [] else []

-- an entry ends a line: a NEWLINE or an NL that stands within no brackets
abbrev pub ends_line : List Entry → Entry → Bool
ends_line before e = elim e.kind [ kinds.Newline ↦ open_brackets before == 0 | kinds.Nl ↦ open_brackets before == 0 | _ ↦ false ]

-- the margins of the logical lines that begin after some entries; those before them stand last first
abbrev pub margins_from : List ℕ → List Entry → List Entry → List Margin
margins_from text before [] = []
margins_from text before (e ∷ es) = (if ends_line before e then margin_at text e.to else []) ++ margins_from text (e ∷ before) es

-- the margins of the logical lines of a text with these entries: a line begins at the start, and where another has ended
abbrev pub margins : List ℕ → List Entry → List Margin
margins text es = margin_at text 0 ++ margins_from text [] es

abbrev pub same_bool : Bool → Bool → Bool
same_bool true b = b
same_bool false b = not b

-- two lines are in the same order, less, equal or greater, whichever way tabs count
abbrev pub are_alike : Widths → Widths → Bool
are_alike v w = same_bool (nat_lt v.eight w.eight) (nat_lt v.one w.one) && same_bool (nat_lt w.eight v.eight) (nat_lt w.one v.one)

-- An earlier line stands in another order than this one, and no line from it on has a smaller width. The earlier ones stand last first, and
-- those between in any order.
abbrev pub is_mixed_past : List Margin → List Margin → Margin → Bool
is_mixed_past between [] m = false
is_mixed_past between (v ∷ earlier) m =
    (list_all (λ u. nat_le v.widths.eight u.widths.eight) between && not (are_alike v.widths m.widths)) ||
    is_mixed_past (v ∷ between) earlier m

-- the indentation of a line after others, which stand last first, depends on how wide a tab is
abbrev pub is_mixed : List Margin → Margin → Bool
is_mixed earlier m = is_mixed_past [] earlier m
