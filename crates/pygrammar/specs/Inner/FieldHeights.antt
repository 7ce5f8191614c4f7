-- The height of the highest field among the parts of f-strings.
use Rattle.std.specs.Prelude.{ℕ, max, List, [], ◌∷◌}
use Rattle.pytree_height.specs.Heights.{height}
use Rattle.pygrammar.specs.FormattedStrings.{StringPart, Text, Field}

abbrev pub fields_height : List StringPart → ℕ
fields_height [] = 0
fields_height (Text t ∷ ps) = fields_height ps
fields_height (Field e ∷ ps) = max (height e) (fields_height ps)
