-- A text that is read by whole lines.
use Rattle.std.specs.Prelude.{◌≡◌, ℕ, List, [], ◌∷◌, ◌++◌}
use Rattle.pylex_lexeme.specs.Characters.{line_feed}

-- characters whose last is a line feed
abbrev pub EndsLine : List ℕ → Type 0
EndsLine cs = (front : List ℕ) × (cs ≡ front ++ line_feed ∷ [])
