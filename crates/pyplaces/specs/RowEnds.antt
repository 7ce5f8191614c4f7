-- Where a row of literals and f-strings ends: after the last of them, where each f-string that began has ended.
use Rattle.std.specs.Prelude.{ℕ, zero, suc, Option, Some, None, List, [], ◌∷◌}
use Rattle.pytoken.specs.Terminals.{Terminal, Literal, FormattedBegin, FormattedEnd}
use Rattle.pygrammar.specs.Reader.{on_some}

-- within so many f-strings: one of them less, and none less, if there is one
abbrev pub closed : ℕ → Option ℕ
closed zero = None
closed (suc d) = Some d

abbrev pub inside : ℕ → Option ℕ
inside zero = None
inside (suc d) = Some (suc d)

-- within how many f-strings a row goes on after a terminal that stands within d of them, if it goes on
abbrev pub depth_following : ℕ → Terminal → Option ℕ
depth_following d FormattedBegin = Some (suc d)
depth_following d (Literal v) = Some d
depth_following d FormattedEnd = closed d
depth_following d t = inside d

-- how many terminals of a row are left, within d of its f-strings
abbrev pub row_length : ℕ → List Terminal → ℕ
row_length d [] = 0
row_length d (t ∷ r) = on_some (depth_following d t) (λ e. suc (row_length e r)) 0
