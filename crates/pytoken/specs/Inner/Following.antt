-- What stands before a place of a list, last first.
use Rattle.std.specs.Prelude.{List, [], ◌∷◌}

-- the elements before a place, last first, with some more after them
abbrev pub following : {X : Type 0} → List X → List X → List X
following before [] = before
following before (x ∷ xs) = following (x ∷ before) xs
