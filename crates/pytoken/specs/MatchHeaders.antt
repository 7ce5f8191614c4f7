-- Whether a line looks like the header of a `match` statement, which Python 3.9 has no form for.
use Rattle.std.specs.Prelude.{Bool, false, ◌&&◌, List, [], ◌∷◌}
use Rattle.std.specs.Str.{bytes_eq}
use Rattle.pylex_lexeme.specs.Characters.{colon}
use Rattle.pytoken.specs.Tokens.{Token}

-- the last of some tokens is a colon
abbrev pub ends_in_colon : List Token → Bool
ends_in_colon [] = false
ends_in_colon (t ∷ []) = bytes_eq t.text (colon ∷ [])
ends_in_colon (_ ∷ ts) = ends_in_colon ts

-- they begin with the text `match`, as it is written, and end in a colon
abbrev pub is_match : List Token → Bool
is_match [] = false
is_match (t ∷ ts) = bytes_eq t.text (109 ∷ 97 ∷ 116 ∷ 99 ∷ 104 ∷ []) && ends_in_colon (t ∷ ts)
