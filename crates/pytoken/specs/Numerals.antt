-- The texts that are written for numbers, as tests.
use Rattle.std.specs.Prelude.{ℕ, Bool, false, ◌&&◌, ◌||◌, List, [], ◌∷◌}
use Rattle.pylex_lexeme.specs.Chars.{begins}
use Rattle.pylex_lexeme.specs.Numbers.{is_decimal_digit, is_j, is_number}

-- the last character is there, and passes
abbrev pub ends : (ℕ → Bool) → List ℕ → Bool
ends f [] = false
ends f (c ∷ []) = f c
ends f (c ∷ d ∷ t) = ends f (d ∷ t)

abbrev pub is_digit_or_j : ℕ → Bool
is_digit_or_j c = is_decimal_digit c || is_j c

-- a number that begins with a digit, and ends in one or in a j
abbrev pub is_numeral : List ℕ → Bool
is_numeral t = is_number t && (begins is_decimal_digit t && ends is_digit_or_j t)
