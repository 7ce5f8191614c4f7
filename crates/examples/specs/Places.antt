-- Spans of nodes, and their texts.
use Rattle.std.specs.Prelude.{◌≡◌, ℕ, Bool, ◌&&◌, nat_le, nat_lt, List, [], ◌∷◌}
use Rattle.pyplaces.specs.Stretches.{Span}
use Rattle.pyplaces.specs.Texts.{text_between}

-- whether a span holds a byte
abbrev pub holds : ℕ → Span → Bool
holds byte s = nat_le s.start byte && nat_lt byte s.stop

-- it is the text of the first of some spans
abbrev pub first_text : List ℕ → List Span → List ℕ → Type 0
first_text text [] is = ⊥
first_text text (s ∷ ss) is = is ≡ text_between text s
