-- The places of a tree in the program: the spans of its marked nodes, and where the lines of its source start.
use Rattle.std.specs.Prelude.{ℕ, List, map, drop}
use Rattle.pyplaces.specs.Stretches.{Span}
use Rattle.pyplaces.specs.LineStarts.{attributes_by}
use Rattle.pytree_marked.specs.MarkedNodes.{Attributes}

pub record PlacesOf : Type 0 where
  pub spans : List Span
  pub starts : List ℕ

-- what is shown of them after the first so many
abbrev pub shown_from : ℕ → PlacesOf → List Attributes
shown_from n p = map (attributes_by p.starts) (drop n p.spans)
