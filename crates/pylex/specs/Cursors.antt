-- Cursors: what is kept of a listing after some of its entries.
use Rattle.std.specs.Prelude.{ℕ, nat_le, Bool, true, false, not, ◌&&◌, ◌||◌, ◌==◌, eqb, List, [], ◌∷◌, ◌++◌, take, drop, reverse, count_by}
use Rattle.std.specs.Prelude.{if◌then◌else◌, decimal, codes}
use lib.Pointwise.{pointwise}
use Rattle.std.specs.List.{prefix_len}
use Rattle.pysource.specs.Places.{place_after}
use Rattle.pylex_listing.specs.declared.entries.Entry.{Entry}
use Rattle.pylex_listing.specs.declared.kind.Kind.TheVariants as kinds
use Rattle.pylex_lexeme.specs.Lexemes.{Lexeme, cut}
use Rattle.pylex_listing.specs.Lines.{text_before, depth, is_logical, count_if}
use Rattle.pylex_lexeme.specs.Chars.{bytes_in}
use Rattle.pylex_listing.specs.Indentation.{width_at, widths, open_levels}
use Rattle.pylex_listing.specs.Listing.{Source, listing}
use Rattle.pylex_listing.specs.Steps.{entries_of}
use Rattle.pylex_listing.specs.Laws.{is_indent}

pub record CursorParts : Type 0 where
  pub given : ℕ
  pub offset : ℕ
  pub row : ℕ
  pub depth : ℕ
  pub begun : Bool
  pub skip : ℕ
  pub levels : List ℕ

-- the entries given, the last one first
unfoldable pub given_last_first : Source → ℕ → List Entry
given_last_first s k = reverse (take k (entries_of (listing s)))

abbrev pub has_no_text : Entry → Bool
has_no_text e = e.«from» == e.to

abbrev pub is_encoding : Entry → Bool
is_encoding e = elim e.kind [ kinds.Encoding ↦ true | _ ↦ false ]

-- the given entries from the last one with text in the source on, that one first
unfoldable pub with_text : List Entry → List Entry
with_text es = drop (prefix_len has_no_text es) es

-- the offset after the last given entry with text in the source; 0 at the start
abbrev pub point : List Entry → ℕ
point [] = 0
point (e ∷ es) = e.to

abbrev pub ends_in_indent : List Entry → Bool
ends_in_indent [] = false
ends_in_indent (e ∷ es) = is_indent e

-- the lexemes that end at an offset or before it, the last one first; those before them stand apart
abbrev pub lexemes_to : ℕ → List Lexeme → List Lexeme → List Lexeme
lexemes_to p before [] = before
lexemes_to p before (x ∷ xs) = if nat_le (bytes_in (text_before (x ∷ before))) p then lexemes_to p (x ∷ before) xs else before

-- the parts of a cursor, by the lexemes before its point, and whether an INDENT ends there
unfoldable pub cursor_at : ℕ → ℕ → Bool → List Lexeme → CursorParts
cursor_at k skip indented before = record {
  given = k;
  offset = bytes_in (text_before before);
  row = (place_after (text_before before)).row;
  depth = depth before;
  begun = indented || is_logical before;
  skip = skip;
  levels = open_levels (if indented then width_at before ∷ widths before else widths before);
}

-- the cursor after the first k entries of a listing
unfoldable pub cursor : Source → ℕ → CursorParts
cursor s k =
    let es = given_last_first s k in
    let empty = take (prefix_len has_no_text es) es in
    cursor_at k (count_by (λ e. not (is_encoding e)) empty) (ends_in_indent (with_text es))
    (lexemes_to (point (with_text es)) [] (cut s.text))

abbrev pub with_commas : List ℕ → List ℕ
with_commas [] = []
with_commas (n ∷ []) = decimal n
with_commas (n ∷ m ∷ ns) = decimal n ++ codes "," ++ with_commas (m ∷ ns)

-- the same number is in each part of two cursors
abbrev pub same_parts : CursorParts → CursorParts → Bool
same_parts c d = (c.given == d.given) &&
    ((c.offset == d.offset) &&
    ((c.row == d.row) &&
    ((c.depth == d.depth) && ((count_if c.begun == count_if d.begun) && ((c.skip == d.skip) && pointwise eqb c.levels d.levels)))))

-- a part, and a blank before it
abbrev pub part : ℕ → List ℕ
part n = codes " " ++ decimal n

-- a cursor's text
unfoldable pub cursor_text : CursorParts → List ℕ
cursor_text c = codes "pytok1" ++ part c.given ++ part c.offset ++ part c.row ++ part c.depth ++ part (count_if c.begun) ++ part c.skip ++
    codes " " ++ with_commas c.levels
