-- The places of a row of literals and f-strings, as its parts come one by one: a text has its place when a field or the end comes.
use Rattle.std.specs.Prelude.{ℕ, List, [], ◌∷◌, ◌++◌}
use Rattle.pytree_node.specs.Trees.{Expr}
use Rattle.pygrammar.specs.FormattedStrings.{StringPart, Text, Field}
use Rattle.pyplaces.specs.Stretches.{Stretch}

-- the place of a text, if it isn't empty
abbrev pub text_places : Stretch → List ℕ → List Stretch
text_places row [] = []
text_places row (c ∷ t) = row ∷ []

-- Of the parts so far, and the places within each field: the text after the last field, and the places before that text.
pub data RowSoFar (row : Stretch) : List StringPart → List (List Stretch) → List ℕ → List Stretch → Type 0 where
  row_start : RowSoFar row [] [] [] []
  row_text : {ss : List StringPart} {fs : List (List Stretch)} {t : List ℕ} {ds : List Stretch} (s : List ℕ)
      → RowSoFar row ss fs t ds → RowSoFar row (ss ++ (Text s ∷ [])) fs (t ++ s) ds
  row_field : {ss : List StringPart} {fs : List (List Stretch)} {t : List ℕ} {ds : List Stretch} (e : Expr) (f : List Stretch)
      → RowSoFar row ss fs t ds
      → RowSoFar row (ss ++ (Field e ∷ [])) (fs ++ (f ∷ [])) [] ((ds ++ text_places row t) ++ (f ++ (row ∷ [])))
