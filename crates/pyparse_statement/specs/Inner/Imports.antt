-- The parts of imports, as the program reads them.
use Rattle.std.specs.Prelude.{ℕ, List, [], ◌∷◌, Bool, true, false}
use Rattle.pylex_lexeme.specs.declared.kinds.Exact.TheVariants.{Dot, Ellipsis}
use Rattle.pytoken.specs.Terminals.{Terminal, Op}
use Rattle.pygrammar.specs.LineReader.{always, starts_name}

-- whether another name follows a comma: in brackets where one begins, else always
abbrev pub more_names : Bool → List Terminal → Bool
more_names true r = starts_name r
more_names false r = always r

-- how many dots a terminal stands for
abbrev pub dots_in : Terminal → ℕ
dots_in (Op Dot) = 1
dots_in (Op Ellipsis) = 3
dots_in t = 0

abbrev pub dots_at : List Terminal → ℕ
dots_at [] = 0
dots_at (t ∷ r) = dots_in t
