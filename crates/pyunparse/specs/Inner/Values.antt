-- The values of an f-string, one by one.
use Rattle.std.specs.Prelude.{ℕ, Bool, List, [], ◌∷◌, ◌++◌}
use Rattle.pytree_node.specs.Trees
use Rattle.pytree_node.specs.Trees.{Expr}
use Rattle.pygrammar.specs.declared.levels.Level.TheVariants.{Or}
use Rattle.pyunparse_text.specs.Written.{Element, Text, field, spec_elements}
use Rattle.pyunparse_text.specs.Pieces.{Sited, piece, pieces}

-- a field, and the text that follows it; nothing where it is none
abbrev pub value_elements : Bool → Expr → List ℕ → List (Element Sited)
value_elements b (Trees.FormattedValue e c s) t = field piece c (pieces Or e) (spec_elements piece s) ++ (Text b t ∷ [])
value_elements b _ t = []
