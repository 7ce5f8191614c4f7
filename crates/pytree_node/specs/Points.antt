-- The code points of Unicode.
use Rattle.std.specs.Prelude.{ℕ, ◌≤◌}

-- a number is a code point, surrogates among them
abbrev pub IsPoint : ℕ → Type 0
IsPoint point = point ≤ 1114111
