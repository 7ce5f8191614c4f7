-- Places, depth and lines. The lexemes before a place stand last first.
use Rattle.std.specs.Prelude.{ℕ, ◌-◌, Bool, ◌&&◌, ◌==◌, List, [], ◌∷◌, ◌++◌, length, drop, count_by, if◌then◌else◌}
use Rattle.std.specs.List.{list_all, list_any}
use Rattle.pylex_lexeme.specs.Lexemes.{Lexeme, is_blanks_class, is_line_end_class, is_significant_class, is_opener_class, is_closer_class}

-- the text of the lexemes before a place
abbrev pub text_before : List Lexeme → List ℕ
text_before [] = []
text_before (x ∷ before) = text_before before ++ x.text

-- 1 if so, else 0
abbrev pub count_if : Bool → ℕ
count_if b = if b then 1 else 0

abbrev pub opens : Lexeme → Bool
opens x = is_opener_class x.«class»

abbrev pub closes : Lexeme → Bool
closes x = is_closer_class x.«class»

-- the brackets that are open at a place: opening ones less closing ones, whatever their kind (reference 2.1.6)
unfoldable pub depth : List Lexeme → ℕ
depth before = count_by opens before - count_by closes before

abbrev pub is_of_blanks : Lexeme → Bool
is_of_blanks x = is_blanks_class x.«class»

abbrev pub is_of_line_end : Lexeme → Bool
is_of_line_end x = is_line_end_class x.«class»

abbrev pub is_significant : Lexeme → Bool
is_significant x = is_significant_class x.«class»

-- the lexemes before a place that are of its measured line: those after the last line end at depth 0
unfoldable pub line_so_far : List Lexeme → List Lexeme
line_so_far [] = []
line_so_far (x ∷ before) = if is_of_line_end x && (depth before == 0) then [] else x ∷ line_so_far before

-- and those before that line
abbrev pub before_line : List Lexeme → List Lexeme
before_line before = drop (length (line_so_far before)) before

-- only blanks stand before a place in its line
unfoldable pub is_at_margin : List Lexeme → Bool
is_at_margin before = list_all is_of_blanks (line_so_far before)

-- the line has begun to be a logical one
unfoldable pub is_logical : List Lexeme → Bool
is_logical before = list_any is_significant (line_so_far before)
