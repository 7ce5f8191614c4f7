-- The clauses of a comprehension, one by one.
use Rattle.std.specs.Prelude.{ℕ, max, List, ◌∷◌, ◌++◌}
use Rattle.pytoken.specs.declared.keywords.Keyword.TheVariants as Key
use Rattle.pygrammar.specs.declared.levels.Level.TheVariants.{Or, Stars}
use Rattle.pytree_node.specs.Trees.{Comprehension, Expr, exprs}
use Rattle.pytree_height.specs.Heights.{height, heights}
use Rattle.pyunparse_text.specs.Written.{conditions, for_in, word}
use Rattle.pyunparse_text.specs.Pieces.{Sited, piece, pieces}

abbrev pub clause : Comprehension → List Sited
clause c = for_in piece c.is_async (pieces Stars c.target ++ (word piece Key.In ∷ (pieces Or c.iter ++ conditions piece (exprs c.ifs))))

-- the height of the highest expression in one
abbrev pub clause_height : Comprehension → ℕ
clause_height c = max (height c.target) (max (height c.iter) (heights (exprs c.ifs)))

-- a condition of one
abbrev pub condition : Expr → List Sited
condition e = word piece Key.If ∷ pieces Or e
