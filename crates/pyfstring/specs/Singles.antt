-- What a text of a body stands for but for its escapes.
use Rattle.std.specs.Prelude.{ℕ, zero, suc, Bool, true, false, List, [], ◌∷◌}
use Rattle.pyfstring.specs.Texts.{is_brace, unit_len}

-- the text from here on, where the first n characters are of a unit and stay
abbrev pub single_after : Bool → ℕ → List ℕ → List ℕ
single_after is_raw n [] = []
single_after is_raw (suc n) (c ∷ cs) = c ∷ single_after is_raw n cs
single_after is_raw zero (c ∷ cs) = elim (unit_len is_raw true (c ∷ cs)) [
  | zero ↦ []
  | suc n ↦ elim (is_brace c) [ true ↦ single_after is_raw n cs | false ↦ c ∷ single_after is_raw n cs ]
]

-- "The parts of the string outside curly braces are treated literally, except that any doubled curly braces '{{' or '}}' are replaced with
-- the
-- corresponding single curly brace."
unfoldable pub single : Bool → List ℕ → List ℕ
single is_raw t = single_after is_raw 0 t
