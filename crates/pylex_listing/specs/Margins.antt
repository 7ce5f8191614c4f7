-- How wide the blanks are that a line begins with: where a tab goes to the next multiple of 8, and where it counts as one space
-- (reference 2.1.8).
use Rattle.std.specs.Prelude.{ℕ, ◌+◌, ◌==◌, List, [], ◌∷◌, if◌then◌else◌}
use Rattle.std.specs.List.{take_while}
use Rattle.pylex_lexeme.specs.Chars.{is_blank_char}
use Rattle.pylex_listing.specs.declared.margins.Widths.{Widths}
use Rattle.pylex_listing.specs.Indentation.{width_from}
use Rattle.pylex_lexeme.specs.Characters.{form_feed}

-- the column after a blank, where a tab counts as one space; a form feed sets 0
abbrev pub column_by_one : ℕ → ℕ → ℕ
column_by_one n c = if c == form_feed then 0 else n + 1

-- the width of blanks that begin at a column, where a tab counts as one space
unfoldable pub width_by_one : ℕ → List ℕ → ℕ
width_by_one n [] = n
width_by_one n (c ∷ cs) = width_by_one (column_by_one n c) cs

-- the blanks at the front of a text
abbrev pub blanks_of : List ℕ → List ℕ
blanks_of cs = take_while is_blank_char cs

-- both widths of these
abbrev pub widths_of : List ℕ → Widths
widths_of cs = record { eight = width_from 0 (blanks_of cs); one = width_by_one 0 (blanks_of cs) }
