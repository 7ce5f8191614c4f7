-- Which f-strings are open in a list of terminals, and how many tokens the list is: an f-string is one, with all that stands in it.
use Rattle.std.specs.Prelude.{ℕ, suc, ◌-◌, List, [], ◌∷◌}
use Rattle.pytoken.specs.Terminals.{Terminal, FormattedBegin, FormattedEnd, FieldBegin, FieldEnd}

-- of each f-string that is open, the innermost first, how many fields are open: those of format specs stand in another field
abbrev pub Open : Type 0
Open = List ℕ

-- what is open after a terminal
abbrev pub open_following : Open → Terminal → Open
open_following o FormattedBegin = 0 ∷ o
open_following (n ∷ o) FormattedEnd = o
open_following (n ∷ o) (FieldBegin c) = suc n ∷ o
open_following (n ∷ o) FieldEnd = (n - 1) ∷ o
open_following o t = o

-- what is open after some
abbrev pub open_after_all : Open → List Terminal → Open
open_after_all o [] = o
open_after_all o (t ∷ ts) = open_after_all (open_following o t) ts

-- how many of them begin a token, where so much is open before them
abbrev pub tokens_after : Open → List Terminal → ℕ
tokens_after o [] = 0
tokens_after [] (t ∷ ts) = suc (tokens_after (open_following [] t) ts)
tokens_after (n ∷ o) (t ∷ ts) = tokens_after (open_following (n ∷ o) t) ts

-- how many tokens a list is
abbrev pub token_count : List Terminal → ℕ
token_count = tokens_after []
