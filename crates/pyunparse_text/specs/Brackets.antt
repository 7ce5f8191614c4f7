-- The most brackets that stand open at once in a list of terminals (reference 2.6).
use Rattle.std.specs.Prelude.{ℕ, suc, ◌-◌, max, List, [], ◌∷◌, if◌then◌else◌}
use Rattle.pylex_lexeme.specs.Operators.{is_opener, is_closer}
use Rattle.pytoken.specs.Terminals.{Terminal, Op}

abbrev pub open_after : ℕ → Terminal → ℕ
open_after d (Op x) = if is_opener x then suc d else (if is_closer x then d - 1 else d)
open_after d _ = d

-- with so many open before
abbrev pub most_open : ℕ → List Terminal → ℕ
most_open d [] = d
most_open d (t ∷ ts) = max d (most_open (open_after d t) ts)

abbrev pub brackets : List Terminal → ℕ
brackets ts = most_open 0 ts
