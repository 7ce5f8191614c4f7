-- Places in the program, which are taken one after the other.
use Rattle.std.specs.Prelude.{Bool, true, false, List, [], ◌∷◌, Option, Some, None}
use Rattle.pytree_marked.specs.declared.shown.Shown as given
use Rattle.pytree_marked.specs.MarkedNodes.{Attributes}

-- what one in the program says
abbrev pub attributes : given.Shown → Attributes
attributes s = record { line = s.line; byte = s.byte; end_line = s.end_line; end_byte = s.end_byte }

abbrev pub is_none_left : List Attributes → Bool
is_none_left [] = true
is_none_left (p ∷ ps) = false

abbrev pub first_left : List Attributes → Option Attributes
first_left [] = None
first_left (p ∷ ps) = Some p
